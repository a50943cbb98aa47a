-- Each mark is clear.
use Rattle.std.proofs.Common.{refl}
use Rattle.holds.specs.Hold.{no_marks}
use Rattle.holds.proofs.Holds.{none_held}
use Rattle.holds.proofs.layer.no_marks.Goals as goal

pub returns : goal.returns
unfolding no_marks
returns c = record { marks = refl; clear = none_held }
