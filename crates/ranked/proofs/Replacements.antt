-- What it does to a list to put another entry in the place of one.
use Rattle.std.proofs.Common.{◌≡◌, ℕ, zero, suc, Bool, true, List, [], ◌∷◌, set, Some, sym, refl, ◌∙◌, subst, arith}
use Rattle.std.specs.List.{slice_get, AllByRecursion}
use Rattle.std.specs.List.Sorted.{IsPermutation}
use Rattle.std.proofs.ByRecursion.{All-weaker}
use Rattle.std.proofs.lemmas.List.Sorted.{IsPermutation-cons, IsPermutation-trans}
use Rattle.ranked.specs.Ranking.{Pairwise, Sorted, Distinct, Level}
use Rattle.ranked.specs.Laws.{LawfulReplacement}
use Rattle.ranked.proofs.Lists.{swap_first}

-- what holds of each entry, and then of e too, holds of each afterwards
pub all_replaced : {X : Type 0} (P : X → Type 0) (xs : List X) (i : ℕ) (e : X) → ((x : X) → slice_get xs i ≡ Some x → P x → P e) → AllByRecursion P xs → AllByRecursion P (set xs i e)
all_replaced P [] zero e so a = tt
all_replaced P [] (suc i) e so a = tt
all_replaced P (x ∷ xs) zero e so a = (so x refl a.0, a.1)
all_replaced P (x ∷ xs) (suc i) e so a = (a.0, all_replaced P xs i e so a.1)

-- e is to the others what the entry was in whose place it stands
module _ {X : Type 0} (R : X → X → Type 0) (e : X) where
  abbrev Alike : X → Type 0
  Alike x = ((z : X) → R x z → R e z) × ((z : X) → R z x → R z e)

  replaced_pairwise : (xs : List X) (i : ℕ) → ((x : X) → slice_get xs i ≡ Some x → Alike x) → Pairwise R xs → Pairwise R (set xs i e)
  replaced_pairwise [] zero so p = tt
  replaced_pairwise [] (suc i) so p = tt
  replaced_pairwise (x ∷ xs) zero so p = (All-weaker (R x) (R e) (so x refl).0 xs p.0, p.1)
  replaced_pairwise (x ∷ xs) (suc i) so p = (all_replaced (R x) xs i e (λ y at. (so y at).1 x) p.0, replaced_pairwise xs i so p.1)

module _ {X : Type 0} (xs : List X) (i : ℕ) (e : X) where
  pub replaced_sorted : (ahead : X → X → Bool) → ((x : X) → slice_get xs i ≡ Some x → Level ahead x e) → Sorted ahead xs → Sorted ahead (set xs i e)
  replaced_sorted ahead level =
      replaced_pairwise (λ x y. ahead x y ≡ true) e xs i (λ x at. (λ z h. sym ((level x at).0 z) ∙ h, λ z h. sym ((level x at).1 z) ∙ h))

  pub replaced_distinct : (serial : X → ℕ) → ((x : X) → slice_get xs i ≡ Some x → serial x ≡ serial e) → Distinct serial xs → Distinct serial (set xs i e)
  replaced_distinct serial same =
      replaced_pairwise (λ x y. serial x ≡ serial y → ⊥) e xs i (λ x at. (λ z ne q. ne (same x at ∙ q), λ z ne q. ne (q ∙ sym (same x at))))

-- one entry goes and e comes, and nothing else
pub replaced_keeps : {X : Type 0} (xs : List X) (i : ℕ) (e x : X) → slice_get xs i ≡ Some x → IsPermutation (x ∷ set xs i e) (e ∷ xs)
replaced_keeps [] i e x at = let z : ◌≡◌ {A = ℕ} 0 1 = cc in absurd (omega arith)
replaced_keeps {X} (y ∷ xs) zero e x at = let same : y ≡ x = cc in subst (λ (z : X). IsPermutation (z ∷ e ∷ xs) (e ∷ y ∷ xs)) same (swap_first y e xs)
replaced_keeps (y ∷ xs) (suc i) e x at =
    IsPermutation-trans (x ∷ y ∷ set xs i e) (y ∷ x ∷ set xs i e) (e ∷ y ∷ xs) (swap_first x y (set xs i e))
    (IsPermutation-trans (y ∷ x ∷ set xs i e) (y ∷ e ∷ xs) (e ∷ y ∷ xs) (IsPermutation-cons y (x ∷ set xs i e) (e ∷ xs) (replaced_keeps xs i e x at)) (swap_first y e xs))

module _ {X : Type 0} (ahead : X → X → Bool) (serial : X → ℕ) (e : X) (xs : List X) where
  pub lawful_replacement : (i : ℕ) (x : X) → slice_get xs i ≡ Some x → LawfulReplacement ahead serial e xs (Some x) (set xs i e)
  lawful_replacement i x at = record {
    sorted = λ level. replaced_sorted xs i e ahead (λ y here. level y (sym at ∙ here));
    distinct = λ same. replaced_distinct xs i e serial (λ y here. same y (sym at ∙ here));
    keeps = replaced_keeps xs i e x at;
  }
