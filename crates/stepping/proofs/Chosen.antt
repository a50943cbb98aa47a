-- The next step, by the market that was read and the orders that were found.
use Rattle.std.proofs.Common.{◌≡◌, ℕ, true, false, List, Some, None, Option, ap, ◌∙◌}
use Rattle.simple.specs.Lots.{Lots}
use Rattle.strategies.specs.declared.leg.Leg.{Leg}
use Rattle.pricing.specs.declared.market.LegMarket.{LegMarket}
use Rattle.pricing.specs.Reading.{markets_of}
use Rattle.rules.specs.declared.order.Order.{Order}
use Rattle.rules.specs.Orders.{best_order}
use Rattle.rules.specs.Steps.{Step, trading, step_with, step_on, step_of}

module _ (legs : List Leg) (s : ℕ) (os : List Order) (b : Lots) (r : Option Step) where
  pub chosen_none : None ≡ markets_of b legs → r ≡ None → r ≡ step_of legs s (trading os b)
  unfolding step_of
  chosen_none m e = e ∙ ap (λ ms. step_on ms (best_order s true os) (best_order s false os)) m

  pub chosen : (ms : List LegMarket) (x y : Option Order) → Some ms ≡ markets_of b legs → x ≡ best_order s true os → y ≡ best_order s false os → r ≡ step_with ms x y → r ≡ step_of legs s (trading os b)
  unfolding step_of
  chosen ms x y m ex ey e = e ∙ ap (λ x. step_with ms x y) ex ∙ ap (step_with ms (best_order s true os)) ey ∙ ap (λ ms. step_on ms (best_order s true os) (best_order s false os)) m
