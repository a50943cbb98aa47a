-- Where the lots of a side stand among all lots.
use Rattle.std.specs.Prelude.{◌≡◌, ℕ, ◌-◌, ◌≤◌, Bool, true, false, not, ◌&&◌, ◌||◌, List, length, take, drop, ◌==◌, nat_lt}
use Rattle.std.specs.List.{AllByRecursion}
use Rattle.simple.specs.declared.lot.Side.{Side}
use Rattle.lots.specs.declared.posted.PostedLot.{PostedLot}
use Rattle.lots.specs.Rank.{is_bid}
use Rattle.depth.specs.Lots.{stands_on}

-- the lot stands before all of that side
abbrev pub stands_before : ℕ → Side → PostedLot → Bool
stands_before s d x = nat_lt x.series s || (x.series == s && (is_bid x.side && not (is_bid d)))

-- the lots of that side are those from one place up to another
pub record Stretch (s : ℕ) (d : Side) (xs : List PostedLot) (first end : ℕ) : Type 0 where
  pub ordered : first ≤ end
  pub within : end ≤ length xs
  pub before : AllByRecursion (λ x. stands_on s d x ≡ false) (take first xs)
  pub own : AllByRecursion (λ x. stands_on s d x ≡ true) (take (end - first) (drop first xs))
  pub behind : AllByRecursion (λ x. stands_on s d x ≡ false) (drop end xs)
