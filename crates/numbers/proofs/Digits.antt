-- What the digits of a number say of it: the steps of the loop that reads them, and the test of a whole word.
use Rattle.std.proofs.Common.{◌≡◌, ℕ, ◌+◌, ◌-◌, ◌*◌, ◌<◌, ◌≤◌, true, List, [], ◌∷◌, length, get_or, take, drop, Some, None, Option, sym, refl, ◌∙◌, subst, arith, rules}
use Rattle.std.specs.Option.{SomeIff}
use Rattle.std.specs.List.{AllByRecursion}
use Rattle.std.proofs.ByRecursion.{All-get_or}
use Rattle.std.proofs.lemmas.List.{at_drop_more, at_drop_all, take_all}
use Rattle.std.proofs.lemmas.Str.Parse.{IsNumeralModel, numerals_by_fold}
use Rattle.std.proofs.lemmas.Bool.{and_parts, and_from, ltb-true, lt-ltb, leb-true, le-leb, cond_both, both_ways}
use Rattle.numbers.proofs.Checks.{same_checked}
use Rattle.numbers.specs.Numbers.{Digit, value, value_after, NumberBelow, all_digits, is_number_below, number_below}

pub value_after_ge : (n : ℕ) (ds : List ℕ) → n ≤ value_after n ds
value_after_ge n [] = omega arith
value_after_ge n (d ∷ ds) = omega (arith, value_after_ge (n * 10 + (d - 48)) ds)

-- the words of a number here are those of the library
pub own : IsNumeralModel (AllByRecursion Digit) value
own = numerals_by_fold _ (search rules) value_after (search rules)

digits_pass : (w : List ℕ) → AllByRecursion Digit w → all_digits w ≡ true
digits_pass [] h = refl
digits_pass (b ∷ bs) h = and_from _ _ (and_from _ _ (le-leb 48 b h.0.0) (le-leb b 57 h.0.1)) (digits_pass bs h.1)

digits_passed : (w : List ℕ) → all_digits w ≡ true → AllByRecursion Digit w
digits_passed [] e = tt
digits_passed (b ∷ bs) e =
    let p = and_parts _ _ e in
    let q = and_parts _ _ p.0 in
    ((leb-true 48 b q.0, leb-true b 57 q.1), digits_passed bs p.1)

-- the definition answers just the numbers, at their values
pub number_says : (limit : ℕ) (w : List ℕ) → SomeIff (number_below limit w) (NumberBelow limit w) (value w)
unfolding number_below
number_says limit w =
    cond_both (is_number_below limit w) (Some (value w)) None (λ r. SomeIff r (NumberBelow limit w) (value w))
    (λ e.
    let p = and_parts _ _ e in
    let q = and_parts _ _ p.1 in
    (record { some = ltb-true 0 (length w) p.0; digits = digits_passed w q.0; below = ltb-true (value w) limit q.1 }, refl))
    (λ e h. both_ways _ e (and_from _ _ (lt-ltb 0 (length w) h.some) (and_from _ _ (digits_pass w h.digits) (lt-ltb (value w) limit h.below))))

-- what answers just the numbers, at their values, answers as the definition does
pub answered : (limit : ℕ) (w : List ℕ) (r : Option ℕ) → SomeIff r (NumberBelow limit w) (value w) → r ≡ number_below limit w
answered limit w r h = same_checked r (number_below limit w) _ _ h (number_says limit w)

-- the bytes before i are digits, and n is their number, below the limit
pub record Sofar (limit : ℕ) (w : List ℕ) (i n : ℕ) : Type 0 where
  pub digits : AllByRecursion Digit (take i w)
  pub number : value_after n (drop i w) ≡ value w
  pub below : n < limit

module _ (limit : ℕ) (w : List ℕ) (i n : ℕ) (h : Sofar limit w i n) where
  at_byte : i < length w → value_after (n * 10 + (get_or w i 0 - 48)) (drop (i + 1) w) ≡ value w
  at_byte l = sym (at_drop_more (value_after n) w i 0 l) ∙ h.number

  -- a byte that is no digit, or with which the number is too large, is in no number
  pub stuck : i < length w → (Digit (get_or w i 0) × (n * 10 + (get_or w i 0 - 48) < limit) → ⊥) → NumberBelow limit w → ⊥
  stuck l never is =
      let m : ℕ = n * 10 + (get_or w i 0 - 48) in
      let grows : m ≤ value w = subst (λ x. m ≤ x) (at_byte l) (value_after_ge m (drop (i + 1) w)) in
      never (All-get_or Digit w i 0 l is.digits, omega (arith, is.below, grows))

  pub all_read : 0 < length w → length w ≤ i → NumberBelow limit w × (n ≡ value w)
  all_read some l =
      let same : n ≡ value w = sym (at_drop_all (value_after n) w i l) ∙ h.number in
      (record { some = some; digits = subst (AllByRecursion Digit) (take_all i w l) h.digits; below = subst (λ x. x < limit) same h.below }, same)
