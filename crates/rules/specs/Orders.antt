-- The orders at rest: their rank, the best of a side, and what is left of one.
use Rattle.std.specs.Prelude.{ℕ, ◌-◌, Bool, cond, not, ◌&&◌, List, [], ◌∷◌, ℤ, pos, neg_ℤ, Some, None, Option, ◌==◌, nat_lt}
use Rattle.std.specs.Option.{unwrap_or}
use Rattle.ranked.specs.Lex.{by_keys, first_if, better}
use Rattle.rules.specs.declared.order.Order.{Order}
use Rattle.rules.specs.Limits.{furthest_limit}

-- what the limit of a market order counts as
abbrev pub market_limit : Bool → ℤ
market_limit buy = cond buy (pos furthest_limit) (neg_ℤ (pos furthest_limit))

-- the limit that matching uses
abbrev pub limit_of : Order → ℤ
limit_of o = unwrap_or o.limit (market_limit o.buy)

-- by strategy, buys before sells, the better limit, the lower acceptance number
abbrev pub order_keys : List (Order → ℤ)
order_keys = (λ o. pos o.strategy) ∷ (λ o. first_if o.buy) ∷ (λ o. better o.buy (limit_of o)) ∷ []

abbrev pub order_number : Order → ℕ
order_number o = o.number

-- x stands before y in rank
abbrev pub order_ahead : Order → Order → Bool
order_ahead x y = by_keys order_keys order_number x y

-- an order of the strategy, on that side
abbrev pub is_of : ℕ → Bool → Order → Bool
is_of s buy o = o.strategy == s && cond buy o.buy (not o.buy)

-- the best buy or sell of a strategy: the first in rank
unfoldable pub best_order : ℕ → Bool → List Order → Option Order
best_order s buy [] = None
best_order s buy (o ∷ os) = cond (is_of s buy o) (Some o) (best_order s buy os)

abbrev pub less : ℕ → Order → Order
less q o = record { strategy = o.strategy; buy = o.buy; limit = o.limit; number = o.number; quantity = o.quantity - q }

-- the order of that number has q less, and rests no more with nothing left
unfoldable pub reduced : ℕ → ℕ → List Order → List Order
reduced n q [] = []
reduced n q (o ∷ os) = cond (o.number == n) (cond (nat_lt q o.quantity) (less q o ∷ os) os) (o ∷ reduced n q os)

-- the order of that number is gone
unfoldable pub dropped : ℕ → List Order → List Order
dropped n [] = []
dropped n (o ∷ os) = cond (o.number == n) os (o ∷ dropped n os)

-- the order of that number
unfoldable pub order_with : ℕ → List Order → Option Order
order_with n [] = None
order_with n (o ∷ os) = cond (o.number == n) (Some o) (order_with n os)

-- what is left of an order
abbrev pub quantity_in : Option Order → ℕ
quantity_in None = 0
quantity_in (Some o) = o.quantity

abbrev pub left_of : ℕ → List Order → ℕ
left_of n os = quantity_in (order_with n os)
