-- Which rule a row breaks first.
use Rattle.std.specs.Prelude.{ℕ, ◌≤◌, cond, List, take, Some, None, Option}
use Rattle.refusals.specs.declared.reason.Reason.{Reason}
use Rattle.refusals.specs.declared.reason.Reason.TheVariants.{LegCount, Series, Ratio}
use Rattle.strategies.specs.declared.leg.Leg.{Leg}
use Rattle.strategies.specs.declared.row.StrategyRow.{StrategyRow}
use Rattle.strategies.specs.Limits.{fewest_legs, most_legs}
use Rattle.strategies.specs.Legs.{count_lawful, rising_from, ratios_lawful}
use Rattle.strategies.specs.Lawful.{LawfulLegs}

-- the legs that a row counts; those beyond are ignored
abbrev pub row_legs : StrategyRow → List Leg
row_legs r = take r.count r.legs

-- the count of legs, then the series of all legs, then the ratios
abbrev pub legs_fault : ℕ → List Leg → Option Reason
legs_fault n ls =
    cond (count_lawful n)
    (cond (rising_from 0 ls) (cond (ratios_lawful ls) None (Some Ratio)) (Some Series))
    (Some LegCount)

-- the first rule that a row breaks
abbrev pub row_fault : StrategyRow → Option Reason
row_fault r = legs_fault r.count (row_legs r)

-- a row of 2 to 4 legs that have the properties
pub record LawfulRow (r : StrategyRow) : Type 0 where
  pub fewest : fewest_legs ≤ r.count
  pub most : r.count ≤ most_legs
  pub legs : LawfulLegs (row_legs r)
