-- What a take leaves of the lots that stand under their numbers.
use Rattle.std.specs.Prelude.{◌≡◌, ℕ, ◌-◌, ◌<◌, ◌≤◌, true, false, cond, ◌⊎◌, List, [], ◌∷◌, ◌++◌, Ok, Err, nat_lt}
use Rattle.std.specs.List.{AllByRecursion}
use Rattle.simple.specs.declared.lot.Side.{Side}
use Rattle.simple.specs.Lots.{contracts}
use Rattle.simple.specs.Take.{Done, resized}
use Rattle.lots.specs.declared.posted.PostedLot.{PostedLot}
use Rattle.depth.specs.Lots.{stands_on, all_lots}

-- the lot with another size, in its place and under its number
abbrev pub reduced : PostedLot → ℕ → PostedLot
reduced x n = record { series = x.series; side = x.side; lot = resized x.lot n; number = x.number }

-- the quantity q removed from the front of one side, lot by lot
abbrev pub take_lots : ℕ → Side → ℕ → List PostedLot → List PostedLot
take_lots s d q [] = []
take_lots s d q (x ∷ xs) =
    cond (stands_on s d x)
    (cond (nat_lt q x.lot.size) (reduced x (x.lot.size - q) ∷ xs) (take_lots s d (q - x.lot.size) xs))
    (x ∷ take_lots s d q xs)

-- the rest n of the quantity is gone from the first lot, and the others stand; or there is no rest, and all stand
abbrev pub Reduced : ℕ → Side → ℕ → List PostedLot → List PostedLot → Type 0
Reduced s d n [] ys = (n ≡ 0) × (ys ≡ [])
Reduced s d n (x ∷ xs) ys =
    ((n ≡ 0) × (ys ≡ x ∷ xs)) ⊎ ((stands_on s d x ≡ true) × (n < x.lot.size) × (ys ≡ reduced x (x.lot.size - n) ∷ xs))

-- the quantity is gone from the front of the side: some lots whole, which stand no more, and the rest of it from the next one
pub record Taken (s : ℕ) (d : Side) (q : ℕ) (xs ys : List PostedLot) : Type 0 where
  pub before : List PostedLot
  pub gone : List PostedLot
  pub behind : List PostedLot
  pub left : List PostedLot
  pub stood : xs ≡ before ++ (gone ++ behind)
  pub stand : ys ≡ before ++ left
  pub front : AllByRecursion (λ x. stands_on s d x ≡ false) before
  pub own : AllByRecursion (λ x. stands_on s d x ≡ true) gone
  pub whole : contracts (all_lots gone) ≤ q
  pub rest : Reduced s d (q - contracts (all_lots gone)) behind left

-- what a take moves: its quantity, or nothing where it was refused
abbrev pub Takes : ℕ → Side → ℕ → List PostedLot → List PostedLot → Done → Type 0
Takes s d q xs ys (Ok _) = Taken s d q xs ys
Takes s d q xs ys (Err _) = ys ≡ xs
