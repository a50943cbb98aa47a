-- `strategy`: what comes of the row.
use Rattle.std.proofs.Common.{Some, None, ap, ◌∙◌}
use Rattle.std.specs.List.{slice_get}
use Rattle.std.specs.Option.{option_map}
use Rattle.stepping.specs.declared.defined.Defined.{Defined}
use Rattle.strategies.specs.Strategies.{strategy_legs}
use Rattle.engine.specs.Table.{rows_of}
use Rattle.engine.proofs.Tables.{row_at, strategy_none, strategy_some}
use Rattle.engine.proofs.held.StrategyTable.strategy.Goals as goal

pub returns-in_err-row-clause-legs : goal.returns-in_err-row-clause-legs
returns-in_err-row-clause-legs c = ap (option_map (λ (x : Defined). strategy_legs x.strategy)) c.from_residual.ensures ∙ strategy_none (rows_of c.args.self.now) c.args.number (row_at _ c.args.number None c.in_err-row.ensures.lookup ∙ ap (λ rows. slice_get rows c.args.number) c.defined.ensures)

pub returns-in_err-strategy-clause-legs : goal.returns-in_err-strategy-clause-legs
returns-in_err-strategy-clause-legs c = ap (option_map (λ (x : Defined). strategy_legs x.strategy)) c.from_residual-in_err-strategy.ensures ∙ ap (option_map strategy_legs) c.in_err-strategy.ensures.value ∙ strategy_some (rows_of c.args.self.now) c.args.number c.in_ok-row.row.now c.try_from.result (row_at _ c.args.number (Some c.in_ok-row.row) c.in_ok-row.ensures.lookup ∙ ap (λ rows. slice_get rows c.args.number) c.defined.ensures) c.try_from.ensures.0

pub returns-clause-legs : goal.returns-clause-legs
returns-clause-legs c = ap (option_map strategy_legs) c.in_ok-strategy.ensures.value ∙ strategy_some (rows_of c.args.self.now) c.args.number c.in_ok-row.row.now c.try_from.result (row_at _ c.args.number (Some c.in_ok-row.row) c.in_ok-row.ensures.lookup ∙ ap (λ rows. slice_get rows c.args.number) c.defined.ensures) c.try_from.ensures.0
