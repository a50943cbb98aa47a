-- What each call is answered with, and what it leaves.
use Rattle.std.specs.Prelude.{true, false, Ok, Err, slice_set}
use Rattle.refusals.specs.declared.station.Station.TheVariants.{Hold as holding, Release as releasing}
use Rattle.simple.specs.Lots.{Lots}
use Rattle.simple.specs.Best.{best_of}
use Rattle.simple.specs.Take.{Done, after, take_answer, taken}
use Rattle.holds.specs.Hold.{Marks, shown, mark_answer}
use Rattle.replay.specs.declared.answer.Answer.{Answer}
use Rattle.replay.specs.declared.answer.Answer.TheVariants.{Done as done, Best as best, Refused}
use Rattle.replay.specs.declared.command.LayerCall.{LayerCall}
use Rattle.replay.specs.declared.command.LayerCall.TheVariants.{Best, Take, Hold, Release}

-- a call that answers no more than that it was done, or why it was refused
abbrev pub done_answer : Done → Answer
done_answer (Ok _) = done
done_answer (Err r) = Refused r

-- a call through the layer is answered by the lists that the layer shows
abbrev pub layer_answer : Lots → LayerCall → Answer
layer_answer b (Best s d) = best (best_of (b s d))
layer_answer b (Take s d q) = done_answer (take_answer b s d q)
layer_answer b (Hold s) = done_answer (mark_answer holding s)
layer_answer b (Release s) = done_answer (mark_answer releasing s)

-- the lists of the book below afterwards: only a take changes them
abbrev pub layer_leaves : Marks → Lots → LayerCall → Lots
layer_leaves m b (Best s d) = b
layer_leaves m b (Take s d q) = after (take_answer (shown m b) s d q) (taken b s d q) b
layer_leaves m b (Hold s) = b
layer_leaves m b (Release s) = b

-- the marks afterwards
abbrev pub marks_after : Marks → LayerCall → Marks
marks_after m (Best s d) = m
marks_after m (Take s d q) = m
marks_after m (Hold s) = after (mark_answer holding s) (slice_set m s true) m
marks_after m (Release s) = after (mark_answer releasing s) (slice_set m s false) m
