-- `whole`: what is left goes down by each lot that goes whole.
use Rattle.std.proofs.Common.{◌<◌, length, Option, sym, subst, arith}
use Rattle.std.specs.Prelude.{IfSome}
use Rattle.std.proofs.lemmas.Option.{slice_get_past}
use Rattle.lots.specs.declared.posted.PostedLot.{PostedLot}
use Rattle.depth.proofs.Sides.{no_lot}
use Rattle.depth.proofs.Wholes.{contracts_more}
use Rattle.depth.proofs.trade.whole.Goals as goal

pub loop-i-preserved : goal.loop-i-preserved
loop-i-preserved c = omega (arith, c.loop-i.invariant, contracts_more c.args.lots.now c.loop-i.i no_lot c.loop-i-test.true)

-- no lot stands behind the last
pub returns-clause-next : goal.returns-clause-next
returns-clause-next c =
    let xs = c.args.lots.now in
    subst (λ (o : Option PostedLot). IfSome o (λ x. c.loop-i.left < x.lot.size)) (sym (slice_get_past xs (length xs) (omega arith))) tt
