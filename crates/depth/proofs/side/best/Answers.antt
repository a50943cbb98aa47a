-- `best`: nothing is joined at first.
use Rattle.std.proofs.Common.{arith}
use Rattle.simple.proofs.Bests.{best_on_none}
use Rattle.depth.specs.Lots.{all_lots}
use Rattle.depth.proofs.side.best.Goals as goal

pub loop-entry-init : goal.loop-entry-init
loop-entry-init c = (best_on_none (all_lots c.args.lots.now), omega arith, omega arith)
