-- What a search over the entries finds.
use Rattle.std.proofs.Common.{◌≡◌, ℕ, suc, ◌+◌, ◌<◌, Bool, not, eqb, List, [], ◌∷◌, length, get_or, take, Some, None, Option, sym, refl, ap, ◌∙◌, subst, inl, inr, arith, length-take}
use Rattle.std.specs.Prelude.{MatchOption}
use Rattle.std.specs.List.{slice_get, position_from}
use Rattle.std.specs.Option.{option_map, unwrap_or}
use Rattle.std.proofs.lemmas.List.{get_or-take}
use Rattle.std.proofs.lemmas.Int.{clamps}
use Rattle.std.proofs.lemmas.Option.{slice_get_read}
use Rattle.std.proofs.lemmas.Bool.{cases_Bool, eqb-true, eqb-false}
use Rattle.ranked.specs.Ranking.{place_of, place_with, Absent, Standing}

-- the first entry that is not ahead of e stands where e belongs
pub place_found : {X : Type 0} (ahead : X → X → Bool) (e : X) (i : ℕ) (xs : List X) (n : ℕ) → n ≡ i + length xs → unwrap_or (position_from (λ x. not (ahead x e)) i xs) n ≡ i + place_of ahead e xs
place_found ahead e i [] n all = omega arith
place_found ahead e i (x ∷ xs) n all =
    let more = place_found ahead e (i + 1) xs n (omega arith) in
    elim (cases_Bool (ahead x e)) [ inl h ↦ simp h (more ∙ omega arith) | inr h ↦ simp h (omega arith) ]

module _ {X : Type 0} (serial : X → ℕ) (n : ℕ) where
  further : (i : ℕ) (o : Option ℕ) → option_map (λ k. i + 1 + k) o ≡ option_map (λ k. i + k) (option_map suc o)
  further i None = refl
  further i (Some k) = ap Some (omega arith)

  -- the place of an entry with the number, where the list starts at place i
  number_found : (i : ℕ) (xs : List X) → position_from (λ x. eqb (serial x) n) i xs ≡ option_map (λ k. i + k) (place_with serial n xs)
  number_found i [] = refl
  number_found i (x ∷ xs) =
      elim (cases_Bool (eqb (serial x) n)) [
        | inl e ↦ simp e (ap Some (omega arith))
        | inr e ↦ simp e (number_found (i + 1) xs ∙ further i (place_with serial n xs))
      ]

  unmoved : (o : Option ℕ) → option_map (λ k. 0 + k) o ≡ o
  unmoved None = refl
  unmoved (Some k) = ap Some (omega arith)

  pub place_found_with : (xs : List X) → position_from (λ x. eqb (serial x) n) 0 xs ≡ place_with serial n xs
  place_found_with xs = number_found 0 xs ∙ unmoved (place_with serial n xs)

  told : (xs : List X) → MatchOption (place_with serial n xs) (Absent serial n xs) (Standing serial n xs)
  told [] = tt
  told (x ∷ xs) =
      elim (cases_Bool (eqb (serial x) n)) [
        | inl e ↦ simp e (x, refl, eqb-true (serial x) n e)
        | inr e ↦ simp e (behind (place_with serial n xs) (told xs) (eqb-false (serial x) n e))
      ]
    where
      behind : (o : Option ℕ) → MatchOption o (Absent serial n xs) (Standing serial n xs) → (serial x ≡ n → ⊥)
          → MatchOption (option_map suc o) (Absent serial n (x ∷ xs)) (Standing serial n (x ∷ xs))
      behind None a ne = (ne, a)
      behind (Some k) s ne = s

  -- what the answer says
  pub place_tells : (r : Option ℕ) (xs : List X) → r ≡ place_with serial n xs → MatchOption r (Absent serial n xs) (Standing serial n xs)
  place_tells r xs is = subst (λ (o : Option ℕ). MatchOption o (Absent serial n xs) (Standing serial n xs)) (sym is) (told xs)

-- the entry at a place of the first n slots
pub nth_front : {X : Type 0} (s : List X) (n i : ℕ) (x : X) → i < n → i < length s → x ≡ get_or s i x → slice_get (take n s) i ≡ Some x
nth_front s n i x lt within at =
    slice_get_read (take n s) (length (take n s)) i x refl (omega (arith, clamps, length-take n s)) (at ∙ sym (get_or-take n s i x lt))
