-- The two questions: net market and display. They change nothing.
use Rattle.std.specs.Prelude.{ℕ, cond, List, ℤ, Some, None, Ok, Err, Option, Result}
use Rattle.refusals.specs.declared.reason.Reason.TheVariants.{Memory, Strategy, NotResting}
use Rattle.refusals.specs.declared.station.Station.TheVariants.{Opening, Net, Display}
use Rattle.refusals.specs.declared.refusal.Refusal.{Refusal}
use Rattle.refusals.specs.Refusals.{refused_at}
use Rattle.simple.specs.Lots.{Lots}
use Rattle.strategies.specs.declared.leg.Leg.{Leg}
use Rattle.pricing.specs.declared.market.LegMarket.{LegMarket}
use Rattle.pricing.specs.Reading.{markets_of, net_market}
use Rattle.pricing.specs.Display.{displayed}
use Rattle.rules.specs.declared.order.Order.{Order}
use Rattle.rules.specs.Orders.{limit_of, order_with}
use Rattle.rules.specs.States.{State, strategy_at}

abbrev pub net_on : Lots → Option (List Leg) → Result (Option (ℤ × ℤ)) Refusal
net_on b None = Err (refused_at Net Strategy)
net_on b (Some legs) = Ok (net_market b legs)

-- the net market of a strategy: the memory, then the strategy
unfoldable pub net_answer : State → Lots → ℕ → Result (Option (ℤ × ℤ)) Refusal
net_answer s b n = cond s.ready (net_on b (strategy_at s.strategies n)) (Err (refused_at Opening Memory))

abbrev pub markets_in : Lots → Option (List Leg) → Option (List LegMarket)
markets_in b None = None
markets_in b (Some legs) = markets_of b legs

abbrev pub display_of : State → Lots → Option Order → Result (Option ℤ) Refusal
display_of s b None = Err (refused_at Display NotResting)
display_of s b (Some o) = Ok (displayed (markets_in b (strategy_at s.strategies o.strategy)) o.buy o.limit (limit_of o))

-- what an order shows: the memory, then whether the order rests
unfoldable pub display_answer : State → Lots → ℕ → Result (Option ℤ) Refusal
display_answer s b n = cond s.ready (display_of s b (order_with n s.orders)) (Err (refused_at Opening Memory))
