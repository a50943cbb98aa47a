-- What it does to a list to take an entry out.
use Rattle.std.proofs.Common.{◌≡◌, ℕ, zero, suc, ◌+◌, ◌-◌, ◌≤◌, Bool, true, false, not, eqb, ◌++◌, List, [], ◌∷◌, take, drop, Some, sym, ap, ◌∙◌, subst, arith}
use Rattle.std.specs.List.{slice_get, remove, AllByRecursion}
use Rattle.std.specs.List.Sorted.{IsPermutation}
use Rattle.std.proofs.ByRecursion.{All-weaker, All-append, All-take, All-drop}
use Rattle.std.proofs.lemmas.List.Sorted.{IsPermutation-refl, IsPermutation-cons, IsPermutation-trans, IsPermutation-append_left, IsPermutation-append_comm}
use Rattle.std.proofs.lemmas.List.{take-append-drop, append_assoc}
use Rattle.std.proofs.Math.Seq.{take-add}
use Rattle.std.proofs.lemmas.Bool.{cond-true, cond-false, eq-eqb, ne_eqb}
use Rattle.ranked.specs.Ranking.{range_of, without, Pairwise, Distinct}
use Rattle.ranked.specs.Laws.{LawfulRemoval, LawfulRangeRemoval}
use Rattle.ranked.proofs.Lists.{kept_all, all_nth, swap_first}

-- what holds of each entry holds of each that is left
pub all_removed : {X : Type 0} (P : X → Type 0) (xs : List X) (i : ℕ) → AllByRecursion P xs → AllByRecursion P (remove xs i)
all_removed P xs i a = All-append P (take i xs) (drop (suc i) xs) (All-take P i xs a) (All-drop P (suc i) xs a)

-- the entries that are left are to one another what they were
pub removed_pairwise : {X : Type 0} (R : X → X → Type 0) (xs : List X) (i : ℕ) → Pairwise R xs → Pairwise R (remove xs i)
removed_pairwise R [] zero p = tt
removed_pairwise R [] (suc i) p = tt
removed_pairwise R (x ∷ xs) zero p = p.1
removed_pairwise R (x ∷ xs) (suc i) p = (all_removed (R x) xs i p.0, removed_pairwise R xs i p.1)

-- it takes one entry out, and nothing else
pub removed_keeps : {X : Type 0} (xs : List X) (i : ℕ) (x : X) → slice_get xs i ≡ Some x → IsPermutation (x ∷ remove xs i) xs
removed_keeps [] i x at = let z : ◌≡◌ {A = ℕ} 0 1 = cc in absurd (omega arith)
removed_keeps {X} (y ∷ xs) zero x at = let same : y ≡ x = cc in subst (λ (z : X). IsPermutation (z ∷ xs) (y ∷ xs)) same (IsPermutation-refl (y ∷ xs))
removed_keeps (y ∷ xs) (suc i) x at =
    IsPermutation-trans (x ∷ y ∷ remove xs i) (y ∷ x ∷ remove xs i) (y ∷ xs) (swap_first x y (remove xs i))
    (IsPermutation-cons y (x ∷ remove xs i) xs (removed_keeps xs i x at))

-- of distinct numbers just the one of the entry taken out is gone
pub removed_others : {X : Type 0} (serial : X → ℕ) (xs : List X) (i : ℕ) (x : X) → slice_get xs i ≡ Some x → Distinct serial xs → remove xs i ≡ without serial (serial x) xs
removed_others serial [] i x at d = let z : ◌≡◌ {A = ℕ} 0 1 = cc in absurd (omega arith)
removed_others {X} serial (y ∷ xs) zero x at d =
    let same : y ≡ x = cc in
    let gone : not (eqb (serial y) (serial x)) ≡ false = ap not (eq-eqb (serial y) (serial x) (ap serial same)) in
    let stays : AllByRecursion (λ z. not (eqb (serial z) (serial x)) ≡ true) xs =
    All-weaker (λ z. serial y ≡ serial z → ⊥) (λ z. not (eqb (serial z) (serial x)) ≡ true)
    (λ z ne. ap not (ne_eqb (serial z) (serial x) (λ q. ne (ap serial same ∙ sym q)))) xs d.0 in
    sym (cond-false _ _ _ gone ∙ kept_all (λ z. not (eqb (serial z) (serial x))) xs stays)
removed_others serial (y ∷ xs) (suc i) x at d =
    let stays : not (eqb (serial y) (serial x)) ≡ true = ap not (ne_eqb (serial y) (serial x) (all_nth (λ z. serial y ≡ serial z → ⊥) xs i x at d.0)) in
    ap (λ ys. y ∷ ys) (removed_others serial xs i x at d.1) ∙ sym (cond-true _ _ _ stays)

module _ {X : Type 0} (ahead : X → X → Bool) (serial : X → ℕ) (xs : List X) where
  pub lawful_removal : (i : ℕ) (e : X) → slice_get xs i ≡ Some e → LawfulRemoval ahead serial xs (Some e) (remove xs i)
  lawful_removal i e at = record {
    others = λ x same. removed_others serial xs i x (at ∙ same);
    sorted = removed_pairwise (λ x y. ahead x y ≡ true) xs i;
    distinct = removed_pairwise (λ x y. serial x ≡ serial y → ⊥) xs i;
    keeps = removed_keeps xs i e at;
  }

-- the entries of a range of places are gone
module _ {X : Type 0} (R : X → X → Type 0) where
  closed_pairwise : (xs : List X) (i j : ℕ) → i ≤ j → Pairwise R xs → Pairwise R (take i xs ++ drop j xs)
  closed_pairwise xs zero zero le p = p
  closed_pairwise [] zero (suc j) le p = tt
  closed_pairwise (x ∷ xs) zero (suc j) le p = closed_pairwise xs zero j (omega arith) p.1
  closed_pairwise xs (suc i) zero le p = absurd (omega arith)
  closed_pairwise [] (suc i) (suc j) le p = tt
  closed_pairwise (x ∷ xs) (suc i) (suc j) le p =
      (All-append (R x) (take i xs) (drop j xs) (All-take (R x) i xs p.0) (All-drop (R x) j xs p.0), closed_pairwise xs i j (omega arith) p.1)

-- they are those of the range, and nothing else
closed_keeps : {X : Type 0} (xs : List X) (i j : ℕ) → i ≤ j → IsPermutation (range_of i j xs ++ (take i xs ++ drop j xs)) xs
closed_keeps {X} xs i j le =
    let out = range_of i j xs in
    let all : i + (j - i) ≡ j = omega arith in
    let front : take i xs ++ out ≡ take j xs = sym (take-add i (j - i) xs) ∙ ap (λ k. take k xs) all in
    let whole : (take i xs ++ out) ++ drop j xs ≡ xs = ap (λ ys. ys ++ drop j xs) front ∙ take-append-drop j xs in
    subst (λ (ys : List X). IsPermutation ys xs) (append_assoc out (take i xs) (drop j xs))
    (subst (λ (ys : List X). IsPermutation ((out ++ take i xs) ++ drop j xs) ys) whole
    (IsPermutation-append_left (drop j xs) (out ++ take i xs) (take i xs ++ out) (IsPermutation-append_comm out (take i xs))))

pub lawful_range_removal : {X : Type 0} (ahead : X → X → Bool) (serial : X → ℕ) (xs : List X) (i j : ℕ) → i ≤ j → LawfulRangeRemoval ahead serial xs (range_of i j xs) (take i xs ++ drop j xs)
lawful_range_removal ahead serial xs i j le = record {
  sorted = closed_pairwise (λ x y. ahead x y ≡ true) xs i j le;
  distinct = closed_pairwise (λ x y. serial x ≡ serial y → ⊥) xs i j le;
  keeps = closed_keeps xs i j le;
}
