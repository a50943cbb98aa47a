-- What a take leaves of lots before a side and behind it.
use Rattle.std.proofs.Common.{◌≡◌, ℕ, zero, suc, ◌+◌, false, List, [], ◌∷◌, ◌++◌, take, drop, Some, sym, refl, ap, ◌∙◌, subst, inl, inr, add-one, one-add, arith}
use Rattle.std.specs.List.{slice_get, prefix_len, AllByRecursion}
use Rattle.std.proofs.lemmas.Bool.{cond-true, cond-false, cases_Bool}
use Rattle.simple.specs.declared.lot.Side.{Side}
use Rattle.ranked.specs.Ranking.{Sorted}
use Rattle.lots.specs.declared.posted.PostedLot.{PostedLot}
use Rattle.lots.specs.Rank.{lot_ahead}
use Rattle.depth.specs.Lots.{stands_on}
use Rattle.depth.specs.Running.{stands_before}
use Rattle.depth.specs.Take.{take_lots}
use Rattle.depth.proofs.Runs.{no_more_before, before_is_off}

pub drop_nth : {X : Type 0} (xs : List X) (i : ℕ) (x : X) → Some x ≡ slice_get xs i → drop i xs ≡ x ∷ drop (i + 1) xs
drop_nth xs i x e = go xs i e ∙ ap (λ k. x ∷ drop k xs) (sym (add-one i))
  where
    go : {X : Type 0} {x : X} (xs : List X) (i : ℕ) → Some x ≡ slice_get xs i → drop i xs ≡ x ∷ drop (suc i) xs
    go [] zero e = let z : ◌≡◌ {A = ℕ} 0 1 = cc in absurd (omega arith)
    go [] (suc i) e = let z : ◌≡◌ {A = ℕ} 0 1 = cc in absurd (omega arith)
    go (y ∷ ys) zero e = cc
    go (y ∷ ys) (suc i) e = go ys i e

module _ (s : ℕ) (d : Side) where
  pub unchanged : (q : ℕ) (xs : List PostedLot) → AllByRecursion (λ y. stands_on s d y ≡ false) xs → take_lots s d q xs ≡ xs
  unchanged q [] a = refl
  unchanged q (x ∷ xs) a = cond-false _ _ _ a.0 ∙ ap (λ ys. x ∷ ys) (unchanged q xs a.1)

  pub sorted_drop : (k : ℕ) (xs : List PostedLot) → Sorted lot_ahead xs → Sorted lot_ahead (drop k xs)
  sorted_drop zero xs a = a
  sorted_drop (suc k) [] a = tt
  sorted_drop (suc k) (x ∷ xs) a = sorted_drop k xs a.1

  pub from_start : (q : ℕ) (xs : List PostedLot) → take_lots s d q xs ≡ take (prefix_len (stands_before s d) xs) xs ++ take_lots s d q (drop (prefix_len (stands_before s d) xs) xs)
  from_start q [] = refl
  from_start q (x ∷ xs) =
      elim (cases_Bool (stands_before s d x)) [
        | inl b ↦
            let count : prefix_len (stands_before s d) (x ∷ xs) ≡ suc (prefix_len (stands_before s d) xs) = cond-true _ _ _ b ∙ one-add (prefix_len (stands_before s d) xs) in
            let past : take_lots s d q (x ∷ xs) ≡ x ∷ take_lots s d q xs = cond-false _ _ _ (before_is_off s d x b) in
            past ∙ ap (λ ys. x ∷ ys) (from_start q xs) ∙ ap (λ k. take k (x ∷ xs) ++ take_lots s d q (drop k (x ∷ xs))) (sym count)
        | inr b ↦
            let count : prefix_len (stands_before s d) (x ∷ xs) ≡ 0 = cond-false _ _ _ b in
            ap (λ k. take k (x ∷ xs) ++ take_lots s d q (drop k (x ∷ xs))) (sym count)
      ]

  pub start_none : (xs : List PostedLot) → Sorted lot_ahead xs → AllByRecursion (λ y. stands_before s d y ≡ false) (drop (prefix_len (stands_before s d) xs) xs)
  start_none [] a = tt
  start_none (x ∷ xs) a =
      elim (cases_Bool (stands_before s d x)) [
        | inl b ↦
            let count : prefix_len (stands_before s d) (x ∷ xs) ≡ suc (prefix_len (stands_before s d) xs) = cond-true _ _ _ b ∙ one-add (prefix_len (stands_before s d) xs) in
            subst (λ k. AllByRecursion (λ y. stands_before s d y ≡ false) (drop k (x ∷ xs))) (sym count) (start_none xs a.1)
        | inr b ↦
            let count : prefix_len (stands_before s d) (x ∷ xs) ≡ 0 = cond-false _ _ _ b in
            subst (λ k. AllByRecursion (λ y. stands_before s d y ≡ false) (drop k (x ∷ xs))) (sym count) (no_more_before s d x xs b a)
      ]
