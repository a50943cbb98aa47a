-- The lots that stand on a depth book, and what they mean as a simple book.
use Rattle.std.specs.Prelude.{ℕ, ◌≤◌, Bool, cond, ◌&&◌, List, [], ◌∷◌, ◌==◌}
use Rattle.std.specs.List.{AllByRecursion}
use Rattle.simple.specs.declared.lot.Side.{Side}
use Rattle.simple.specs.declared.lot.Lot.{Lot}
use Rattle.simple.specs.Limits.{last_series, side_limit}
use Rattle.simple.specs.Lots.{Lots, same_side, contracts}
use Rattle.simple.specs.Lots as simple
use Rattle.ranked.specs.Ranking.{Sorted, Distinct}
use Rattle.lots.specs.declared.posted.PostedLot.{PostedLot}
use Rattle.lots.specs.Rank.{lot_ahead, lot_number}

-- the lot stands on that side of that series
abbrev pub stands_on : ℕ → Side → PostedLot → Bool
stands_on s d x = x.series == s && same_side x.side d

-- the lots of each side, in the order in which they stand
abbrev pub lots_of : List PostedLot → Lots
lots_of [] s d = []
lots_of (x ∷ xs) s d = cond (stands_on s d x) (x.lot ∷ lots_of xs s d) (lots_of xs s d)

-- lots without series, side and number
abbrev pub all_lots : List PostedLot → List Lot
all_lots [] = []
all_lots (x ∷ xs) = x.lot ∷ all_lots xs

-- a lot that may stand, where so many were posted
pub record Fit (posted : ℕ) (x : PostedLot) : Type 0 where
  pub listed : x.series ≤ last_series
  pub lot : simple.Sound x.lot
  pub numbered : x.number ≤ posted

-- lots that a depth book can have, where so many were posted
pub record Sound (xs : List PostedLot) (posted : ℕ) : Type 0 where
  pub ranked : Sorted lot_ahead xs
  pub numbers : Distinct lot_number xs
  pub fit : AllByRecursion (Fit posted) xs
  pub within : (s : ℕ) (d : Side) → contracts (lots_of xs s d) ≤ side_limit
