-- One step of a strategy, what it leaves, and step after step.
use Rattle.std.specs.Prelude.{ℕ, zero, suc, ◌*◌, min, Bool, true, false, cond, not, List, [], ◌∷◌, is_some, Some, None, fold, Option, nat_le, nat_lt}
use Rattle.std.specs.Option.{option_map, option_or}
use Rattle.simple.specs.declared.lot.Side.{Side}
use Rattle.simple.specs.declared.lot.Side.TheVariants.{Bid, Offer}
use Rattle.simple.specs.Lots.{Lots}
use Rattle.simple.specs.Take.{take_answer, taken, after}
use Rattle.strategies.specs.declared.leg.Leg.{Leg}
use Rattle.pricing.specs.declared.market.LegMarket.{LegMarket}
use Rattle.pricing.specs.declared.market.NetPrice.{NetPrice}
use Rattle.pricing.specs.Pair.{pair_price}
use Rattle.pricing.specs.Legging.{legged_quantity, taken_at}
use Rattle.pricing.specs.Reading.{markets_of}
use Rattle.rules.specs.declared.order.Order.{Order}
use Rattle.rules.specs.declared.execution.Execution.{Execution}
use Rattle.rules.specs.Orders.{limit_of, best_order, reduced}

-- a buy and a sell that trade with each other, or an order that trades with the simple book, so much of it
pub data Step : Type 0 where
  pair : (buy sell : Order) → NetPrice → Step
  legged : (order : Order) → (quantity : ℕ) → NetPrice → Step

-- the best buy and the best sell trade at the first admissible price within both limits
abbrev pub pair_of : List LegMarket → Option Order → Option Order → Option Step
pair_of ms None c = None
pair_of ms (Some b) None = None
pair_of ms (Some b) (Some c) = option_map (pair b c) (pair_price ms (limit_of b) (limit_of c) (nat_lt b.number c.number))

-- an order is legged for as much as can be, if that is at least 1
abbrev pub leg_for : List LegMarket → Order → ℕ → Option Step
leg_for ms o q = cond (nat_le 1 q) (Some (legged o q (taken_at ms o.buy))) None

abbrev pub leg_of : List LegMarket → Option Order → Option Step
leg_of ms None = None
leg_of ms (Some o) = leg_for ms o (legged_quantity ms o.buy (limit_of o) o.quantity)

-- the number of the order that is legged
abbrev pub number_in : Step → ℕ
number_in (pair b c t) = b.number
number_in (legged o q t) = o.number

-- if both can be legged the older goes
abbrev pub older : Option Step → Option Step → Option Step
older None y = y
older (Some x) None = Some x
older (Some x) (Some y) = cond (nat_lt (number_in x) (number_in y)) (Some x) (Some y)

-- a pair first, else legging, for the best buy and the best sell
abbrev pub step_with : List LegMarket → Option Order → Option Order → Option Step
step_with ms b c = option_or (pair_of ms b c) (older (leg_of ms b) (leg_of ms c))

-- a strategy that is not free has no step
abbrev pub step_on : Option (List LegMarket) → Option Order → Option Order → Option Step
step_on None b c = None
step_on (Some ms) b c = step_with ms b c

-- what a step sees and changes: the orders at rest and the lots of the simple book
pub record Trading : Type 0 where
  pub orders : List Order
  pub lots : Lots

abbrev pub trading : List Order → Lots → Trading
trading os b = record { orders = os; lots = b }

-- the step of the strategy s that has these legs
unfoldable pub step_of : List Leg → ℕ → Trading → Option Step
step_of legs s t = step_on (markets_of t.lots legs) (best_order s true t.orders) (best_order s false t.orders)

-- its record
abbrev pub execution_of : ℕ → Step → Execution
execution_of s (pair b c t) = record { strategy = s; price = t.price; quantity = min b.quantity c.quantity; buy = b.number; sell = c.number; legs = t.legs }
execution_of s (legged o q t) = record { strategy = s; price = t.price; quantity = q; buy = cond o.buy o.number 0; sell = cond o.buy 0 o.number; legs = t.legs }

-- the side of a leg that an order takes: a buy the offers of bought and the bids of sold legs, a sell the reverse
abbrev pub side_taken : Bool → Leg → Side
side_taken buy leg = cond (cond buy leg.bought (not leg.bought)) Offer Bid

-- what taking ratio times q of a leg's best leaves
abbrev pub leg_taken : Bool → ℕ → Lots → Leg → Lots
leg_taken buy q b leg =
    after (take_answer b leg.series (side_taken buy leg) (leg.ratio * q))
    (taken b leg.series (side_taken buy leg) (leg.ratio * q))
    b

-- of each leg in order
unfoldable pub legs_taken : List Leg → Bool → ℕ → Lots → Lots
legs_taken legs buy q b = fold (leg_taken buy q) b legs

-- what a step leaves of the orders: those named have so much less
abbrev pub orders_after : Step → List Order → List Order
orders_after (pair b c t) os = reduced c.number (min b.quantity c.quantity) (reduced b.number (min b.quantity c.quantity) os)
orders_after (legged o q t) os = reduced o.number q os

-- what it leaves of the lots: a pair takes nothing
abbrev pub lots_after : List Leg → Step → Lots → Lots
lots_after legs (pair b c t) lots = lots
lots_after legs (legged o q t) lots = legs_taken legs o.buy q lots

unfoldable pub after_step : List Leg → Step → Trading → Trading
after_step legs x t = record { orders = orders_after x t.orders; lots = lots_after legs x t.lots }

-- what steps come to: the records, what is left, and whether they ended because none was possible
pub record Stepped : Type 0 where
  pub executions : List Execution
  pub left : Trading
  pub settled : Bool

abbrev pub no_more : Trading → Bool → Stepped
no_more t settled = record { executions = []; left = t; settled = settled }

abbrev pub preceded : Execution → Stepped → Stepped
preceded e f = record { executions = e ∷ f.executions; left = f.left; settled = f.settled }

abbrev pub onward : ℕ → Option Step → Trading → (Step → Stepped) → Stepped
onward s None t go = no_more t true
onward s (Some x) t go = preceded (execution_of s x) (go x)

-- step after step, until none is possible or the list has no room
unfoldable pub steps : List Leg → ℕ → ℕ → Trading → Stepped
steps legs s zero t = no_more t false
steps legs s (suc room) t = onward s (step_of legs s t) t (λ x. steps legs s room (after_step legs x t))

-- no step is possible
abbrev pub rests : List Leg → ℕ → Trading → Bool
rests legs s t = not (is_some (step_of legs s t))
