-- Bytes as two hexadecimal digits: which words are bytes, which byte each writes, and how a byte is written.
use Rattle.std.specs.Prelude.{◌≡◌, ℕ, ◌+◌, ◌-◌, ◌*◌, ◌/◌, ◌%◌, ◌≤◌, Bool, cond, ◌&&◌, ◌||◌, ◌⊎◌, List, [], ◌∷◌, length, Some, None, Option, nat_le, nat_lt, slice_index}
use Rattle.std.specs.List.{AllByRecursion}

-- a hexadecimal digit is one of the bytes `0` to `9`, `A` to `F` and `a` to `f`
abbrev pub HexDigit : ℕ → Type 0
HexDigit b = ((48 ≤ b) × (b ≤ 57)) ⊎ (((65 ≤ b) × (b ≤ 70)) ⊎ ((97 ≤ b) × (b ≤ 102)))

-- the same as a test
abbrev pub is_hex_digit : ℕ → Bool
is_hex_digit b = (nat_le 48 b && nat_le b 57) || ((nat_le 65 b && nat_le b 70) || (nat_le 97 b && nat_le b 102))

-- its value: the letters go on from ten
abbrev pub hex_value : ℕ → ℕ
hex_value b = cond (nat_le b 57) (b - 48) (cond (nat_le b 70) (b - 55) (b - 87))

-- a byte is two hexadecimal digits, the high one first
pub record HexByte (w : List ℕ) : Type 0 where
  pub two : length w ≡ 2
  pub digits : AllByRecursion HexDigit w

abbrev pub byte_value : List ℕ → ℕ
byte_value w = hex_value (slice_index w 0) * 16 + hex_value (slice_index w 1)

-- the byte that a word writes, if it writes one
unfoldable pub byte_in : List ℕ → Option ℕ
byte_in [] = None
byte_in (a ∷ []) = None
byte_in (a ∷ b ∷ []) = cond (is_hex_digit a && is_hex_digit b) (Some (hex_value a * 16 + hex_value b)) None
byte_in (a ∷ b ∷ c ∷ more) = None

-- the digit of a value below sixteen, in upper case
abbrev pub hex_digit : ℕ → ℕ
hex_digit d = cond (nat_lt d 10) (48 + d) (55 + d)

-- a byte as it is written
abbrev pub hex_of : ℕ → List ℕ
hex_of b = hex_digit (b / 16) ∷ hex_digit (b % 16) ∷ []
