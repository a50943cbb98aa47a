-- Numbers in decimal: which words are numbers, and which number each of them writes.
use Rattle.std.specs.Prelude.{◌≡◌, ℕ, ◌+◌, ◌-◌, ◌*◌, ◌^◌, ◌<◌, ◌≤◌, Bool, true, cond, ◌&&◌, ◌⊎◌, List, [], ◌∷◌, length, ℤ, pos, neg_ℤ, Some, None, Option, ◌==◌, nat_le, nat_lt}
use Rattle.std.specs.Option.{option_map}
use Rattle.std.specs.List.{AllByRecursion}

-- a digit is one of the bytes `0` to `9`
abbrev pub Digit : ℕ → Type 0
Digit b = (48 ≤ b) × (b ≤ 57)

-- the number that digits write, after the number n that the digits before them wrote
abbrev pub value_after : ℕ → List ℕ → ℕ
value_after n [] = n
value_after n (d ∷ ds) = value_after (n * 10 + (d - 48)) ds

abbrev pub value : List ℕ → ℕ
value ds = value_after 0 ds

-- a number below a limit is one digit or more, whatever they begin with, with a value below it
pub record NumberBelow (limit : ℕ) (w : List ℕ) : Type 0 where
  pub some : 0 < length w
  pub digits : AllByRecursion Digit w
  pub below : value w < limit

-- the same as a test
abbrev pub all_digits : List ℕ → Bool
all_digits [] = true
all_digits (b ∷ bs) = (nat_le 48 b && nat_le b 57) && all_digits bs

abbrev pub is_number_below : ℕ → List ℕ → Bool
is_number_below limit w = nat_lt 0 (length w) && (all_digits w && nat_lt (value w) limit)

-- the number below a limit that a word writes, if it writes one
unfoldable pub number_below : ℕ → List ℕ → Option ℕ
number_below limit w = cond (is_number_below limit w) (Some (value w)) None

-- the unsigned number that a word writes, if it writes one
abbrev pub number_in : List ℕ → Option ℕ
number_in w = number_below (2 ^ 64) w

-- a signed number is a number, or a number behind a `-`, within 64 bits with the sign
abbrev pub SignedNumber : List ℕ → Type 0
SignedNumber w = NumberBelow (2 ^ 63) w ⊎ ((ds : List ℕ) × (w ≡ 45 ∷ ds) × NumberBelow (2 ^ 63 + 1) ds)

-- its value
abbrev pub signed_value : List ℕ → ℤ
signed_value [] = pos 0
signed_value (b ∷ bs) = cond (b == 45) (neg_ℤ (pos (value bs))) (pos (value (b ∷ bs)))

-- the signed number that a word writes, if it writes one
unfoldable pub signed_in : List ℕ → Option ℤ
signed_in [] = None
signed_in (b ∷ bs) = cond (b == 45) (option_map (λ n. neg_ℤ (pos n)) (number_below (2 ^ 63 + 1) bs)) (option_map pos (number_below (2 ^ 63) (b ∷ bs)))
