-- `take_legs`: so many legs are taken.
use Rattle.stepping.proofs.Takes.{taken_all}
use Rattle.stepping.proofs.taking.take_legs.Goals as goal

pub returns : goal.returns
returns g c =
    let lots = g.B.SimpleBook.lots in
    record {
      lots = taken_all (lots c.args.book.now) c.args.legs.now c.loop-leg.leg-index c.args.buy c.args.quantity (lots c.loop-leg.book) c.loop-leg.invariant.0 c.loop-leg-test.false;
      frame = c.loop-leg.invariant.1;
    }
