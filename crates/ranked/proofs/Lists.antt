-- Facts about any list that the edits share.
use Rattle.std.proofs.Common.{◌≡◌, ℕ, zero, suc, Bool, true, false, List, [], ◌∷◌, Some, filter, refl, ap, ◌∙◌, subst, arith}
use Rattle.std.specs.List.{slice_get, AllByRecursion}
use Rattle.std.specs.List.Sorted.{IsPermutation}
use Rattle.std.proofs.lemmas.List.Sorted.{IsPermutation-swap}
use Rattle.std.proofs.lemmas.Bool.{cond-true, cond-false}

-- no entry passes
pub kept_none : {X : Type 0} (test : X → Bool) (xs : List X) → AllByRecursion (λ x. test x ≡ false) xs → filter test xs ≡ []
kept_none test [] a = refl
kept_none test (x ∷ xs) a = cond-false _ _ _ a.0 ∙ kept_none test xs a.1

-- each entry passes
pub kept_all : {X : Type 0} (test : X → Bool) (xs : List X) → AllByRecursion (λ x. test x ≡ true) xs → filter test xs ≡ xs
kept_all test [] a = refl
kept_all test (x ∷ xs) a = cond-true _ _ _ a.0 ∙ ap (λ ys. x ∷ ys) (kept_all test xs a.1)

-- what holds of each entry holds of the one at a place
pub all_nth : {X : Type 0} (P : X → Type 0) (xs : List X) (i : ℕ) (x : X) → slice_get xs i ≡ Some x → AllByRecursion P xs → P x
all_nth P [] i x at a = let z : ◌≡◌ {A = ℕ} 0 1 = cc in absurd (omega arith)
all_nth P (y ∷ xs) zero x at a = let same : y ≡ x = cc in subst P same a.0
all_nth P (y ∷ xs) (suc i) x at a = all_nth P xs i x at a.1

-- the first two entries change places
pub swap_first : {X : Type 0} (x y : X) (xs : List X) → IsPermutation (x ∷ y ∷ xs) (y ∷ x ∷ xs)
swap_first x y xs = IsPermutation-swap (x ∷ y ∷ xs) (y ∷ x ∷ xs) 0 1 (omega arith) (omega arith) refl
