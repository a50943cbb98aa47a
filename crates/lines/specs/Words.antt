-- The words of a line by their places, and which lines are passed over.
use Rattle.std.specs.Prelude.{ℕ, Bool, ◌||◌, List, [], length, ◌==◌, slice_index, slice_index_or}

-- a word by its place
abbrev pub word : List (List ℕ) → ℕ → List ℕ
word ws i = slice_index_or ws i []

-- an empty line and a line whose first word begins with `#` are passed over
abbrev pub is_passed_over : List (List ℕ) → Bool
is_passed_over ws = length (word ws 0) == 0 || slice_index (word ws 0) 0 == 35
