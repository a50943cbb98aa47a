-- `legs`: the row of a strategy is lawful, so its legs have the properties.
use Rattle.std.proofs.Common.{◌≡◌, List, None, length, min, sym, subst, arith}
use Rattle.std.proofs.lemmas.Grind.{common_steps}
use Rattle.strategies.specs.declared.leg.Leg.{Leg}
use Rattle.strategies.specs.declared.row.StrategyRow.{StrategyRow}
use Rattle.strategies.specs.Limits.{most_legs}
use Rattle.strategies.specs.Lawful.{LawfulLegs}
use Rattle.strategies.specs.Rows.{row_legs, row_fault}
use Rattle.strategies.proofs.Checks.{row_lawful}
use Rattle.strategies.proofs.Places.{placed}
use Rattle.strategies.proofs.strategy.Strategy.legs.Goals as goal

lawful_as : (r : StrategyRow) (ls : List Leg) → length (row_legs r) ≡ min r.count most_legs → None ≡ row_fault r → row_legs r ≡ ls → LawfulLegs ls
lawful_as r ls all none same = subst LawfulLegs same (row_lawful r all none).legs

-- that the legs answered are those counted is searched for, not cited: an edit of them is refused by its value
pub returns-clause-lawful : goal.returns-clause-lawful
returns-clause-lawful c = lawful_as c.args.self.now.row _ (grind (arith, common_steps)) (sym c.args.self.now.lawful) (grind (arith, common_steps))

pub returns-clause-placed : goal.returns-clause-placed
returns-clause-placed c = placed _ (lawful_as c.args.self.now.row _ (grind (arith, common_steps)) (sym c.args.self.now.lawful) (grind (arith, common_steps)))
