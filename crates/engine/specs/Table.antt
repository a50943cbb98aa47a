-- The strategies of a table.
use Rattle.std.specs.Prelude.{List, take}
use Rattle.strategies.specs.declared.row.StrategyRow.{StrategyRow}
use Rattle.engine.specs.declared.held.StrategyTable.{StrategyTable}

-- the rows of the strategies that are defined, by number
abbrev pub rows_of : StrategyTable → List StrategyRow
rows_of t = take t.count t.rows
