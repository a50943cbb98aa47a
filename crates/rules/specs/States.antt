-- What an engine holds.
use Rattle.std.specs.Prelude.{ℕ, Bool, true, false, cond, not, ◌&&◌, ◌||◌, List, [], ◌∷◌, Some, None, Option, ◌==◌}
use Rattle.std.specs.List.{slice_get}
use Rattle.std.specs.Result.{result_ok}
use Rattle.strategies.specs.declared.leg.Leg.{Leg}
use Rattle.strategies.specs.declared.row.StrategyRow.{StrategyRow}
use Rattle.strategies.specs.Rows.{row_legs}
use Rattle.strategies.specs.Strategies.{checked}
use Rattle.rules.specs.declared.order.Order.{Order}

-- whether its memory has the places that an engine needs, the strategies by number, the orders at rest in rank,
-- and how many orders were accepted
pub record State : Type 0 where
  pub ready : Bool
  pub strategies : List StrategyRow
  pub orders : List Order
  pub accepted : ℕ

-- an engine that was just opened
abbrev pub opened : Bool → State
opened ready = record { ready = ready; strategies = []; orders = []; accepted = 0 }

abbrev pub legs_in : Option StrategyRow → Option (List Leg)
legs_in None = None
legs_in (Some row) = result_ok (checked row)

-- the legs of a strategy that is defined
unfoldable pub strategy_at : List StrategyRow → ℕ → Option (List Leg)
strategy_at rows n = legs_in (slice_get rows n)

abbrev pub same_mark : Bool → Bool → Bool
same_mark a b = cond a b (not b)

abbrev pub same_leg : Leg → Leg → Bool
same_leg a b = a.series == b.series && (same_mark a.bought b.bought && a.ratio == b.ratio)

-- the same legs: as many, with the same series, sides and ratios
abbrev pub same_legs : List Leg → List Leg → Bool
same_legs [] [] = true
same_legs [] (b ∷ bs) = false
same_legs (a ∷ ls) [] = false
same_legs (a ∷ ls) (b ∷ bs) = same_leg a b && same_legs ls bs

-- a strategy of these legs is defined already
unfoldable pub stands_among : List Leg → List StrategyRow → Bool
stands_among legs [] = false
stands_among legs (row ∷ rows) = same_legs (row_legs row) legs || stands_among legs rows
