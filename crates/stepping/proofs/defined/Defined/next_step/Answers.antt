-- `next_step`: by the market and the two best orders.
use Rattle.std.proofs.Common.{ap}
use Rattle.std.specs.Option.{option_map}
use Rattle.ranked.specs.Held.{items}
use Rattle.strategies.specs.Strategies.{strategy_legs}
use Rattle.pricing.specs.Markets.{legs_of}
use Rattle.stepping.specs.Stepping.{told}
use Rattle.stepping.proofs.Chosen.{chosen_none, chosen}
use Rattle.stepping.proofs.defined.Defined.next_step.Goals as goal

pub returns-in_err-market-clause-answer : goal.returns-in_err-market-clause-answer
returns-in_err-market-clause-answer g c = chosen_none (strategy_legs c.args.self.now.strategy) c.args.self.now.number (items c.args.orders.now) (g.B.SimpleBook.lots c.args.book.now) (option_map told c.from_residual.result) c.in_err-market.ensures.answer (ap (option_map told) c.from_residual.ensures)

pub returns-clause-answer : goal.returns-clause-answer
returns-clause-answer g c = chosen (strategy_legs c.args.self.now.strategy) c.args.self.now.number (items c.args.orders.now) (g.B.SimpleBook.lots c.args.book.now) (option_map told c.step_with.result) (legs_of c.in_ok-market.market) c.best_order-buy.result c.best_order-sell.result c.in_ok-market.ensures.answer c.best_order-buy.ensures c.best_order-sell.ensures c.step_with.ensures
