use Rattle.std.proofs.Common.{rules, tests, ap, ◌∙◌}
use Rattle.std.proofs.lemmas.Iterator.{YieldsList-from_slice}
use Rattle.std.proofs.lemmas.Iterator.Search.{any_from_yields_List}
use Rattle.pricing.specs.Display.{customer_taken, meets_customer}
use Rattle.pricing.proofs.strategy_market.StrategyMarket.meets_customer.Goals as goal

pub returns : goal.returns
unfolding meets_customer
returns c = any_from_yields_List (customer_taken c.args.buy) _ _ _ c.any.ensures.ran (YieldsList-from_slice c.legs.result.now cc) (λ x b q k. search (rules, tests)) ∙ ap (λ ms. meets_customer ms c.args.buy) c.legs.ensures.value
