-- `take_legs`: so many legs are taken.
use Rattle.std.proofs.Common.{◌≡◌, take, fold}
use Rattle.rules.specs.Steps.{leg_taken}
use Rattle.stepping.proofs.taking.take_legs.Given as goal

abbrev pub invariant-loop-leg : goal.invariant-loop-leg
invariant-loop-leg g l =
    let lots = g.B.SimpleBook.lots in
    let frame = g.B.SimpleBook.frame in
    (lots l.book ≡ fold (leg_taken l.buy l.quantity) (lots l.initial.book) (take l.leg-index l.legs))
    × (frame l.book ≡ frame l.initial.book)
