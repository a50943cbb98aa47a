-- Words of two hexadecimal digits.
use Rattle.std.proofs.Common.{◌≡◌, ℕ, ◌+◌, ◌*◌, ◌/◌, ◌%◌, ◌<◌, ◌≤◌, true, ◌&&◌, ltb, leb, List, [], ◌∷◌, length, get_or, Some, Option, sym, refl, inl, inr, arith}
use Rattle.std.specs.Option.{SomeIff}
use Rattle.std.proofs.lemmas.Bool.{and_parts, and_from, or_cases, or_left, or_right, leb-true, le-leb, ltb-true, ltb-false, cond_both, both_ways}
use Rattle.std.proofs.lemmas.Bool.Decides.{nat_tests}
use Rattle.numbers.proofs.Checks.{same_checked}
use Rattle.hex_bytes.specs.Bytes.{HexDigit, is_hex_digit, hex_value, HexByte, byte_value, byte_in, hex_digit, hex_of}

between_passed : (lo hi b : ℕ) → (leb lo b && leb b hi) ≡ true → (lo ≤ b) × (b ≤ hi)
between_passed lo hi b e = let p = and_parts _ _ e in (leb-true lo b p.0, leb-true b hi p.1)

between_passes : (lo hi b : ℕ) → (lo ≤ b) × (b ≤ hi) → (leb lo b && leb b hi) ≡ true
between_passes lo hi b h = and_from _ _ (le-leb lo b h.0) (le-leb b hi h.1)

passed : (b : ℕ) → is_hex_digit b ≡ true → HexDigit b
passed b e =
    elim (or_cases _ _ e) [
      | inl f ↦ inl (between_passed 48 57 b f)
      | inr f ↦ elim (or_cases _ _ f) [ inl h ↦ inr (inl (between_passed 65 70 b h)) | inr h ↦ inr (inr (between_passed 97 102 b h)) ]
    ]

passes : (b : ℕ) → HexDigit b → is_hex_digit b ≡ true
passes b (inl h) = or_left _ _ (between_passes 48 57 b h)
passes b (inr (inl h)) = or_right (leb 48 b && leb b 57) _ (or_left _ _ (between_passes 65 70 b h))
passes b (inr (inr h)) = or_right (leb 48 b && leb b 57) _ (or_right (leb 65 b && leb b 70) _ (between_passes 97 102 b h))

pub byte_says : (w : List ℕ) → SomeIff (byte_in w) (HexByte w) (byte_value w)
unfolding byte_in
byte_says [] = λ h. let n = h.two in absurd (omega arith)
byte_says (a ∷ []) = λ h. let n = h.two in absurd (omega arith)
byte_says (a ∷ b ∷ []) =
    cond_both (is_hex_digit a && is_hex_digit b) _ _ (λ r. SomeIff r (HexByte (a ∷ b ∷ [])) (hex_value a * 16 + hex_value b))
    (λ e. let p = and_parts _ _ e in (record { two = refl; digits = (passed a p.0, (passed b p.1, tt)) }, refl))
    (λ e h. both_ways _ e (and_from _ _ (passes a h.digits.0) (passes b h.digits.1.0)))
byte_says (a ∷ b ∷ c ∷ more) = λ h. let n = h.two in absurd (omega arith)

pub byte_answered : (w : List ℕ) (r : Option ℕ) → SomeIff r (HexByte w) (byte_value w) → r ≡ byte_in w
byte_answered w r h = same_checked r (byte_in w) _ _ h (byte_says w)

pub two_digits : (w : List ℕ) → length w ≡ 2 → HexDigit (get_or w 0 0) → HexDigit (get_or w 1 0) → HexByte w
two_digits [] n h k = absurd (omega arith)
two_digits (a ∷ []) n h k = absurd (omega arith)
two_digits (a ∷ b ∷ []) n h k = record { two = refl; digits = (h, (k, tt)) }
two_digits (a ∷ b ∷ c ∷ more) n h k = absurd (omega arith)

hex_digit_back : (d : ℕ) → d < 16 → HexDigit (hex_digit d) × (hex_value (hex_digit d) ≡ d)
hex_digit_back d h = cond_both (ltb d 10) (48 + d) (55 + d) (λ x. HexDigit x × (hex_value x ≡ d))
    (λ e. let l = ltb-true d 10 e in (inl (omega arith, omega arith), grind (arith, nat_tests)))
    (λ e. let l = ltb-false d 10 e in (inr (inl (omega arith, omega arith)), grind (arith, nat_tests)))

pub byte_back : (b : ℕ) → b < 256 → byte_in (hex_of b) ≡ Some b
byte_back b h =
    let high = hex_digit_back (b / 16) (omega arith) in
    let low = hex_digit_back (b % 16) (omega arith) in
    let same : b ≡ byte_value (hex_of b) = omega (arith, high.1, low.1) in
    sym (byte_answered (hex_of b) (Some b) (two_digits _ refl high.0 low.0, same))
