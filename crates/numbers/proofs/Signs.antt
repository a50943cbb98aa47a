-- A word with a `-` in front and a word with none, as signed numbers.
use Rattle.std.proofs.Common.{◌≡◌, ℕ, ◌+◌, ◌-◌, ◌^◌, ◌<◌, ◌≤◌, eqb, List, [], ◌∷◌, length, get_or, take, drop, ℤ, pos, neg_ℤ, Option, sym, refl, ap, subst, inl, inr, arith}
use Rattle.std.specs.Option.{SomeIff, option_map}
use Rattle.std.proofs.lemmas.List.{take_rest}
use Rattle.std.proofs.lemmas.Bool.{cond_both, cond-false, eqb-true, eqb-false, ne_eqb}
use Rattle.numbers.proofs.Checks.{same_checked, checked_under, checked_mapped}
use Rattle.numbers.proofs.Digits.{number_says}
use Rattle.numbers.specs.Numbers.{value, NumberBelow, number_below, SignedNumber, signed_value, signed_in}

pub raised : {limit more : ℕ} {w : List ℕ} → limit ≤ more → NumberBelow limit w → NumberBelow more w
raised le h = record { some = h.some; digits = h.digits; below = omega (arith, h.below) }

pub minus_only : (ds : List ℕ) → SignedNumber (45 ∷ ds) → NumberBelow (2 ^ 63 + 1) ds
minus_only ds (inl h) = let d = h.digits.0.0 in absurd (omega (arith, d))
minus_only ds (inr h) = subst (NumberBelow (2 ^ 63 + 1)) (sym (ap (λ l. drop 1 l) h.1)) h.2

pub plain_only : (w : List ℕ) → (0 < length w → get_or w 0 0 ≡ 45 → ⊥) → SignedNumber w → NumberBelow (2 ^ 63) w
plain_only w plain (inl h) = h
plain_only w plain (inr h) = absurd (plain (subst (λ l. 0 < length l) (sym h.1) (omega arith)) (ap (λ l. get_or l 0 0) h.1))

pub plain_value : (w : List ℕ) → (0 < length w → get_or w 0 0 ≡ 45 → ⊥) → pos (value w) ≡ signed_value w
plain_value [] plain = refl
plain_value (b ∷ bs) plain = sym (cond-false (eqb b 45) (neg_ℤ (pos (value bs))) (pos (value (b ∷ bs))) (ne_eqb b 45 (plain (omega arith))))

-- an answer to the digits behind a `-` is one to the word, and an answer to a word with no `-` in front is one to it as a signed number
pub minus_checked : (ds : List ℕ) (r : Option ℤ) → SomeIff r (NumberBelow (2 ^ 63 + 1) ds) (neg_ℤ (pos (value ds))) → SomeIff r (SignedNumber (45 ∷ ds)) (signed_value (45 ∷ ds))
minus_checked ds r h = checked_under r _ _ _ _ (λ k. inr (ds, refl, k)) (minus_only ds) refl h

pub plain_checked : (w : List ℕ) (r : Option ℤ) → (0 < length w → get_or w 0 0 ≡ 45 → ⊥) → SomeIff r (NumberBelow (2 ^ 63) w) (pos (value w)) → SomeIff r (SignedNumber w) (signed_value w)
plain_checked w r plain h = checked_under r _ _ _ _ (λ k. inl k) (plain_only w plain) (plain_value w plain) h

-- the definition answers just the signed numbers, at their values
pub signed_says : (w : List ℕ) → SomeIff (signed_in w) (SignedNumber w) (signed_value w)
unfolding signed_in
signed_says [] = λ h. omega (arith, (plain_only [] (λ l _. omega arith) h).some)
signed_says (b ∷ bs) =
    let below : Option ℤ = option_map (λ n. neg_ℤ (pos n)) (number_below (2 ^ 63 + 1) bs) in
    cond_both (eqb b 45) _ _ (λ r. SomeIff r (SignedNumber (b ∷ bs)) (signed_value (b ∷ bs)))
    (λ e. subst (λ x. SomeIff below (SignedNumber (x ∷ bs)) (signed_value (x ∷ bs))) (sym (eqb-true b 45 e)) (minus_checked bs below (checked_mapped (λ n. neg_ℤ (pos n)) _ _ _ (number_says (2 ^ 63 + 1) bs))))
    (λ e. plain_checked (b ∷ bs) _ (λ _. eqb-false b 45 e) (checked_mapped (λ n. pos n) _ _ _ (number_says (2 ^ 63) (b ∷ bs))))

pub signed_answered : (w : List ℕ) (r : Option ℤ) → SomeIff r (SignedNumber w) (signed_value w) → r ≡ signed_in w
signed_answered w r h = same_checked r (signed_in w) _ _ h (signed_says w)

-- a number that is found and then tested against a lower limit
pub narrowed : {A : Type 0} (f : ℕ → A) (limit : ℕ) (w : List ℕ) (n : ℕ) (r : Option A) → limit ≤ 2 ^ 64 → NumberBelow (2 ^ 64) w × (n ≡ value w) → SomeIff r (n < limit) (f n) → SomeIff r (NumberBelow limit w) (f (value w))
narrowed f limit w n r le h k =
    checked_under r _ _ _ _
    (λ l. record { some = h.0.some; digits = h.0.digits; below = omega (arith, h.1) })
    (λ l. omega (arith, h.1, l.below))
    (ap f h.1) k

pub behind_minus : (w : List ℕ) → 0 < length w → get_or w 0 0 ≡ 45 → 45 ∷ drop 1 w ≡ w
behind_minus [] l e = absurd (omega arith)
behind_minus (b ∷ bs) l e = ap (λ x. x ∷ bs) (sym e)

-- the same of the digits as a slice of the word
pub minus_read : (w : List ℕ) (r : Option ℤ) → 0 < length w → get_or w 0 0 ≡ 45 → SomeIff r (NumberBelow (2 ^ 63 + 1) (take (length w - 1) (drop 1 w))) (neg_ℤ (pos (value (take (length w - 1) (drop 1 w))))) → SomeIff r (SignedNumber w) (signed_value w)
minus_read w r l e h =
    subst (λ x. SomeIff r (SignedNumber x) (signed_value x)) (behind_minus w l e) (minus_checked (drop 1 w) r (subst (λ ds. SomeIff r (NumberBelow (2 ^ 63 + 1) ds) (neg_ℤ (pos (value ds)))) (take_rest w 1) h))
