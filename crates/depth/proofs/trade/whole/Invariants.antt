-- `whole`: what its loop keeps.
use Rattle.std.proofs.Common.{◌≡◌, ◌+◌, take}
use Rattle.simple.specs.Lots.{contracts}
use Rattle.depth.specs.Lots.{all_lots}
use Rattle.depth.proofs.trade.whole.Given as goal

abbrev pub invariant-loop-i : goal.invariant-loop-i
invariant-loop-i l = contracts (all_lots (take l.i l.lots)) + l.left ≡ l.quantity
