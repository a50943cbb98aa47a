-- `best`: what its loop keeps.
use Rattle.std.proofs.Common.{◌≡◌, ◌+◌, ◌≤◌, drop}
use Rattle.simple.specs.Limits.{side_limit}
use Rattle.simple.specs.Lots.{contracts}
use Rattle.simple.specs.Best.{best_of, best_size, customer_part}
use Rattle.simple.proofs.Bests.{best_on}
use Rattle.depth.specs.Lots.{all_lots}
use Rattle.depth.proofs.side.best.Given as goal

abbrev pub invariant-loop-entry : goal.invariant-loop-entry
invariant-loop-entry l =
    (best_of (all_lots l.lots) ≡ best_on l.best (all_lots (drop l.entry-index l.lots)))
    × (best_size l.best + contracts (all_lots (drop l.entry-index l.lots)) ≤ side_limit)
    × (customer_part l.best ≤ best_size l.best)
