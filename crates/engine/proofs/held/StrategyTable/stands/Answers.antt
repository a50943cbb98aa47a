-- `stands`: whether a row has the legs.
use Rattle.std.proofs.Common.{◌∙◌, rules}
use Rattle.std.specs.Cmp.Lexicographic.{pointwise}
use Rattle.std.proofs.lemmas.Iterator.{YieldsList-from_slice}
use Rattle.std.proofs.lemmas.Iterator.Search.{any_from_yields_List}
use Rattle.strategies.specs.Rows.{row_legs}
use Rattle.engine.specs.Table.{rows_of}
use Rattle.engine.proofs.Tables.{leg_eq, stands_so}
use Rattle.engine.proofs.held.StrategyTable.stands.Goals as goal

pub returns : goal.returns
returns c =
    let legs = row_legs c.args.row.now in
    let rows = rows_of c.args.self.now in
    any_from_yields_List (λ row. pointwise leg_eq (row_legs row) legs) _ _ c.any.result c.any.ensures.ran (YieldsList-from_slice rows (c.iter.ensures.rest ∙ c.defined.ensures)) (λ x b q k. search rules)
    ∙ stands_so legs rows
