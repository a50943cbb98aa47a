-- How the words of a line are shown in printable ASCII.
use Rattle.std.specs.Prelude.{ℕ, cond, ◌&&◌, List, [], ◌∷◌, ◌++◌, map, nat_le}
use Rattle.std.specs.List.{flat_map}

-- a byte from the space to the tilde is shown as it is, and any other as `?`
abbrev pub printable_byte : ℕ → ℕ
printable_byte b = cond (nat_le 32 b && nat_le b 126) b 63

abbrev pub printable_word : List ℕ → List ℕ
printable_word w = map printable_byte w

-- the words of a line are shown with one space between them: the first, and then each other behind a space
abbrev pub spaced : List ℕ → List ℕ
spaced w = 32 ∷ printable_word w

unfoldable pub printable_line : List (List ℕ) → List ℕ
printable_line [] = []
printable_line (w ∷ ws) = printable_word w ++ flat_map spaced ws
