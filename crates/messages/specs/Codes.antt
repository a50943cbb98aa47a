-- The codes that stand for kinds and marks in a message, each said once.
use Rattle.std.specs.Prelude.{ℕ, Bool, true, cond, Some, None, Option, ◌==◌}
use Rattle.messages.specs.declared.codes.Kind.{Kind}
use Rattle.messages.specs.declared.codes.Kind.TheVariants.{Place, Cancel, Evaluate, Define}

abbrev pub kind_code : Kind → ℕ
kind_code Place = 1
kind_code Cancel = 2
kind_code Evaluate = 3
kind_code Define = 4

-- the kind that has a code
abbrev pub kind_coded : ℕ → Option Kind
kind_coded n =
    cond (n == kind_code Place) (Some Place)
    (cond (n == kind_code Cancel) (Some Cancel)
    (cond (n == kind_code Evaluate) (Some Evaluate)
    (cond (n == kind_code Define) (Some Define)
    None)))

-- a mark is one bit
abbrev pub mark_code : Bool → ℕ
mark_code marked = cond marked 1 0

abbrev pub mark_coded : ℕ → Bool
mark_coded n = n == mark_code true
