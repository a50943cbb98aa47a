-- What a depth book keeps of its lots, taken out of the truncation under which it keeps it.
use Rattle.std.specs.Prelude.{◌≡◌, ℕ, ◌≤◌, Bool, true, false, List, [], ◌∷◌, ◌≢◌, refl}
use Rattle.std.proofs.Math.Logic.{∥∥₁_elim, ∥∥₁_map}
use mathlib.Core.HLevel.{⊥_prop}
use Rattle.std.proofs.Math.Bridge.{le_prop}
use Rattle.std.specs.List.{AllByRecursion}
use Rattle.std.proofs.lemmas.Bool.{false≢true}
use Rattle.simple.specs.declared.lot.Lot.{Lot}
use Rattle.simple.specs.Lots as simple
use Rattle.ranked.specs.Ranking.{Pairwise}
use Rattle.lots.specs.declared.posted.PostedLot.{PostedLot}
use Rattle.lots.specs.Rank.{lot_ahead, lot_number}
use Rattle.depth.specs.Lots.{Fit, Sound}

le_out : {a b : ℕ} → ∥ a ≤ b ∥₁ → a ≤ b
le_out t = ∥∥₁_elim t le_prop (λ h. h)

true_out : (b : Bool) → ∥ b ≡ true ∥₁ → b ≡ true
true_out true t = refl
true_out false t = absurd (∥∥₁_elim t ⊥_prop (λ e. false≢true e))

all_out : {X : Type 0} (P : X → Type 0) → ((x : X) → ∥ P x ∥₁ → P x) → (xs : List X) → ∥ AllByRecursion P xs ∥₁ → AllByRecursion P xs
all_out P f [] t = tt
all_out P f (x ∷ xs) t = (f x (∥∥₁_map t (λ a. a.0)), all_out P f xs (∥∥₁_map t (λ a. a.1)))

pairwise_out : {X : Type 0} (R : X → X → Type 0) → ((x y : X) → ∥ R x y ∥₁ → R x y) → (xs : List X) → ∥ Pairwise R xs ∥₁ → Pairwise R xs
pairwise_out R f [] t = tt
pairwise_out R f (x ∷ xs) t = (all_out (R x) (f x) xs (∥∥₁_map t (λ a. a.0)), pairwise_out R f xs (∥∥₁_map t (λ a. a.1)))

lot_out : (l : Lot) → ∥ simple.Sound l ∥₁ → simple.Sound l
lot_out l t = record {
  least = le_out (∥∥₁_map t (λ f. f.least));
  most = le_out (∥∥₁_map t (λ f. f.most));
  some = le_out (∥∥₁_map t (λ f. f.some));
}

fit_out : (n : ℕ) (x : PostedLot) → ∥ Fit n x ∥₁ → Fit n x
fit_out n x t = record {
  listed = le_out (∥∥₁_map t (λ f. f.listed));
  lot = lot_out x.lot (∥∥₁_map t (λ f. f.lot));
  numbered = le_out (∥∥₁_map t (λ f. f.numbered));
}

pub sound_out : (xs : List PostedLot) (n : ℕ) → ∥ Sound xs n ∥₁ → Sound xs n
sound_out xs n t = record {
  ranked = pairwise_out (λ x y. lot_ahead x y ≡ true) (λ x y. true_out (lot_ahead x y)) xs (∥∥₁_map t (λ s. s.ranked));
  numbers = pairwise_out (λ x y. lot_number x ≢ lot_number y) (λ x y u e. ∥∥₁_elim u ⊥_prop (λ apart. apart e)) xs (∥∥₁_map t (λ s. s.numbers));
  fit = all_out (Fit n) (fit_out n) xs (∥∥₁_map t (λ s. s.fit));
  within = λ s d. le_out (∥∥₁_map t (λ z. z.within s d));
}
