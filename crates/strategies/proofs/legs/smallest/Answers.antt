-- `smallest`: the smallest of what the chain gives.
use Rattle.std.proofs.Common.{rules, tests, min, arith}
use Rattle.std.proofs.lemmas.Int.{clamps}
use Rattle.std.proofs.lemmas.Iterator.{YieldsList-from_slice}
use Rattle.std.proofs.lemmas.Iterator.Consumers.{fold_from_yields_List}
use Rattle.strategies.specs.Limits.{highest_ratio}
use Rattle.strategies.proofs.Walks.{smallest_fold, smallest_within}
use Rattle.strategies.proofs.legs.smallest.Goals as goal

pub returns : goal.returns
returns c =
    let legs = c.args.legs.now in
    let found = fold_from_yields_List _ (λ m l. min m l.ratio) _ c.fold.result c.fold.ensures.ran (YieldsList-from_slice legs cc) (λ a x b q k. search (rules, tests)) in
    let same = smallest_fold highest_ratio legs (omega arith) in
    let within = smallest_within legs in
    record { value = omega (arith, clamps); within = omega (arith, clamps) }
