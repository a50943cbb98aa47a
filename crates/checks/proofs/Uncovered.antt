-- A layer that holds nothing hides nothing.
use Rattle.std.proofs.Common.{◌≡◌, cond, ap, ◌∙◌}
use mathlib.Core.Path.{fun_ext}
use Rattle.std.proofs.lemmas.Bool.{cond-false}
use Rattle.simple.specs.Lots.{Lots}
use Rattle.holds.specs.Hold.{HoldFrame, no_marks, on_hold, hold_frame, beneath}
use Rattle.holds.proofs.Holds.{none_held}

pub uncovered : {F : Type 0} (f : HoldFrame F) (b seen : Lots) (below : F) → f ≡ hold_frame no_marks b below → beneath f seen ≡ seen
uncovered f b seen below e =
    ap (λ x. beneath x seen) e ∙ fun_ext (λ s. fun_ext (λ d. cond-false (on_hold no_marks s) (cond (on_hold no_marks s) (b s d) _) (seen s d) (none_held s)))
