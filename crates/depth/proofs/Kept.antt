-- What a depth book keeps of its lots, and what it gives.
use Rattle.std.proofs.Common.{◌≡◌, ℕ, ◌+◌, ◌-◌, ◌≤◌, true, cond, ltb, List, [], ◌∷◌, sym, ap, subst, arith}
use mathlib.Core.Logic.{∥∥₁_map}
use Rattle.std.specs.List.{AllByRecursion}
use Rattle.std.proofs.lemmas.Bool.{cond_both, ltb-true}
use Rattle.std.proofs.ByRecursion.{All-weaker}
use Rattle.simple.specs.declared.lot.Side.{Side}
use Rattle.simple.specs.declared.lot.Lot.{Lot}
use Rattle.simple.specs.Limits.{side_limit}
use Rattle.simple.specs.Lots.{Lots, contracts}
use Rattle.simple.specs.Take.{resized, take_from}
use Rattle.ranked.specs.Ranking.{Pairwise, Sorted}
use Rattle.lots.specs.declared.posted.PostedLot.{PostedLot}
use Rattle.lots.specs.Rank.{lot_ahead, lot_number}
use Rattle.depth.specs.Lots.{stands_on, lots_of, Fit, Sound}
use Rattle.depth.specs.Take.{reduced, take_lots}
use Rattle.depth.specs.Soundness.{sound_out}
use Rattle.depth.proofs.Changes.{take_meaning, side_within}

-- the facts of the lots at hand
module _ (xs ys : List PostedLot) (n : ℕ) (z : ∥ Sound xs n ∥₁) (is : ys ≡ xs) where
  pub sorted_now : Sorted lot_ahead ys
  sorted_now = subst (λ (zs : List PostedLot). Sorted lot_ahead zs) (sym is) (sound_out xs n z).ranked

pub within_now : (xs : List PostedLot) (n : ℕ) → ∥ Sound xs n ∥₁ → (s : ℕ) (d : Side) (ls : List Lot) → ls ≡ lots_of xs s d → contracts ls ≤ side_limit
within_now xs n z s d ls is = let w = (sound_out xs n z).within s d in let e = ap contracts is in omega arith

-- a lot that is reduced keeps what its size does not touch
module _ (s : ℕ) (d : Side) where
  all_taken : (P : PostedLot → Type 0) → ((x : PostedLot) (n : ℕ) → 1 ≤ n → P x → P (reduced x n)) → (q : ℕ) (xs : List PostedLot) → AllByRecursion P xs → AllByRecursion P (take_lots s d q xs)
  all_taken P so q [] a = tt
  all_taken P so q (x ∷ xs) a =
      cond_both (stands_on s d x) (cond (ltb q x.lot.size) (reduced x (x.lot.size - q) ∷ xs) (take_lots s d (q - x.lot.size) xs)) (x ∷ take_lots s d q xs) (AllByRecursion P)
      (λ _. cond_both (ltb q x.lot.size) (reduced x (x.lot.size - q) ∷ xs) (take_lots s d (q - x.lot.size) xs) (AllByRecursion P)
      (λ h. (let lt = ltb-true q x.lot.size h in so x (x.lot.size - q) (omega arith) a.0, a.1))
      (λ _. all_taken P so (q - x.lot.size) xs a.1))
      (λ _. (a.0, all_taken P so q xs a.1))

  pairwise_taken : (R : PostedLot → PostedLot → Type 0) → ((x y : PostedLot) (n : ℕ) → R x y → R (reduced x n) y) → ((x y : PostedLot) (n : ℕ) → R x y → R x (reduced y n)) → (q : ℕ) (xs : List PostedLot) → Pairwise R xs → Pairwise R (take_lots s d q xs)
  pairwise_taken R left right q [] a = tt
  pairwise_taken R left right q (x ∷ xs) a =
      cond_both (stands_on s d x) (cond (ltb q x.lot.size) (reduced x (x.lot.size - q) ∷ xs) (take_lots s d (q - x.lot.size) xs)) (x ∷ take_lots s d q xs) (Pairwise R)
      (λ _. cond_both (ltb q x.lot.size) (reduced x (x.lot.size - q) ∷ xs) (take_lots s d (q - x.lot.size) xs) (Pairwise R)
      (λ _. (All-weaker (R x) (R (reduced x (x.lot.size - q))) (λ y h. left x y (x.lot.size - q) h) xs a.0, a.1))
      (λ _. pairwise_taken R left right (q - x.lot.size) xs a.1))
      (λ _. (all_taken (R x) (λ y n _ h. right x y n h) q xs a.0, pairwise_taken R left right q xs a.1))

less_taken : (q : ℕ) (ls : List Lot) → contracts (take_from q ls) ≤ contracts ls
less_taken q [] = omega arith
less_taken q (l ∷ ls) =
    cond_both (ltb q l.size) (resized l (l.size - q) ∷ ls) (take_from (q - l.size) ls) (λ ms. contracts ms ≤ l.size + contracts ls)
    (λ _. omega arith) (λ _. let h = less_taken (q - l.size) ls in omega arith)

fit_reduced : (n : ℕ) (x : PostedLot) (k : ℕ) → 1 ≤ k → Fit n x → Fit n (reduced x k)
fit_reduced n x k low f = record { listed = f.listed; lot = record { least = f.lot.least; most = f.lot.most; some = low }; numbered = f.numbered }

sound_taken : (s : ℕ) (d : Side) (q : ℕ) (xs : List PostedLot) (n : ℕ) → Sound xs n → Sound (take_lots s d q xs) n
sound_taken s d q xs n z = record {
  ranked = pairwise_taken s d (λ x y. lot_ahead x y ≡ true) (λ x y k h. h) (λ x y k h. h) q xs z.ranked;
  numbers = pairwise_taken s d (λ x y. lot_number x ≡ lot_number y → ⊥) (λ x y k h. h) (λ x y k h. h) q xs z.numbers;
  fit = all_taken s d (Fit n) (fit_reduced n) q xs z.fit;
  within = λ t e.
      let m = ap (λ (b : Lots). contracts (b t e)) (take_meaning s d q xs) in
      let less = less_taken q (lots_of xs s d) in
      let own = z.within s d in
      let small = side_within (lots_of xs) s d (take_from q (lots_of xs s d)) side_limit (omega arith) z.within t e in
      omega arith;
}

pub kept_taken : (s : ℕ) (d : Side) (q : ℕ) (xs ys : List PostedLot) (n : ℕ) → ys ≡ take_lots s d q xs → ∥ Sound xs n ∥₁ → ∥ Sound ys n ∥₁
kept_taken s d q xs ys n is z = ∥∥₁_map z (λ w. subst (λ (zs : List PostedLot). Sound zs n) (sym is) (sound_taken s d q xs n w))
