-- Worked cases: two legs, of the series 10 and 11, the first bought and the second sold.
use Rattle.std.specs.Prelude.{◌≡◌, ℕ, true, false, [], ◌∷◌, Some, None}
use Rattle.refusals.specs.declared.reason.Reason.TheVariants.{Ratio}
use Rattle.refusals.specs.Reasons.{number_of}
use Rattle.strategies.specs.declared.row.StrategyRow.{StrategyRow}
use Rattle.strategies.specs.Legs.{blank}
use Rattle.strategies.specs.Rows.{row_fault}

-- the row of the two ratios
abbrev pub two_legs : ℕ → ℕ → StrategyRow
two_legs a b = record {
  count = 2;
  legs = record { series = 10; bought = true; ratio = a } ∷ record { series = 11; bought = false; ratio = b } ∷ blank ∷ blank ∷ [];
}

pub record Worked : Type 0 where
  -- 1 to 3 and 3 to 8 stand
  pub third : row_fault (two_legs 1 3) ≡ None
  pub eighths : row_fault (two_legs 3 8) ≡ None
  -- the reason Ratio has the number 13
  pub number : ◌≡◌ {A = ℕ} (number_of Ratio) 13
  -- 4 is above three times 1
  pub fourth : row_fault (two_legs 1 4) ≡ Some Ratio
  -- 2 divides both 2 and 4
  pub halves : row_fault (two_legs 2 4) ≡ Some Ratio
