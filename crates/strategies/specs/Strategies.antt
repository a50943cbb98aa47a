-- The legs of a strategy, and what comes of a row.
use Rattle.std.specs.Prelude.{List, Some, None, Ok, Err, Option, Result}
use Rattle.refusals.specs.declared.reason.Reason.{Reason}
use Rattle.strategies.specs.declared.leg.Leg.{Leg}
use Rattle.strategies.specs.declared.row.StrategyRow.{StrategyRow}
use Rattle.strategies.specs.declared.strategy.Strategy.{Strategy}
use Rattle.strategies.specs.Rows.{row_legs, row_fault}

-- the legs of a strategy, in order
abbrev pub strategy_legs : Strategy → List Leg
strategy_legs s = row_legs s.row

-- the legs, or the rule that they break
abbrev pub legs_or : Option Reason → List Leg → Result (List Leg) Reason
legs_or None ls = Ok ls
legs_or (Some why) ls = Err why

-- what comes of a row
abbrev pub checked : StrategyRow → Result (List Leg) Reason
checked r = legs_or (row_fault r) (row_legs r)

-- the legs of the strategy that was made, or why none was
abbrev pub legs_made : Result Strategy Reason → Result (List Leg) Reason
legs_made (Ok s) = Ok (strategy_legs s)
legs_made (Err why) = Err why
