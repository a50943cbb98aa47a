-- The price that an order shows.
use Rattle.std.specs.Prelude.{Bool, cond, List, ℤ, pos, ◌+ℤ◌, ◌-ℤ◌, Some, None, Option, nat_lt}
use Rattle.std.specs.List.{list_any}
use Rattle.pricing.specs.declared.market.LegMarket.{LegMarket}
use Rattle.pricing.specs.Legging.{lifts, net_taken, reaches}

-- a Priority Customer has part of the best size that the order would take of a leg
abbrev pub customer_taken : Bool → LegMarket → Bool
customer_taken buy m = nat_lt 0 (cond (lifts buy m) m.offer.customer m.bid.customer)

-- of some leg
unfoldable pub meets_customer : List LegMarket → Bool → Bool
meets_customer ms buy = list_any (customer_taken buy) ms

-- one cent worse for the order: less for a buy, more for a sell
abbrev pub a_cent_off : Bool → ℤ → ℤ
a_cent_off buy p = cond buy (p -ℤ pos 1) (p +ℤ pos 1)

-- on a free strategy a limit that reaches the net market shows the net price on the other side,
-- one cent off it where a Priority Customer is met; any other shows itself
abbrev pub shown : List LegMarket → Bool → ℤ → ℤ
shown ms buy limit =
    cond (reaches ms buy limit)
    (cond (meets_customer ms buy) (a_cent_off buy (net_taken ms buy)) (net_taken ms buy))
    limit

-- an order placed with a limit, or with none (a market order): while the strategy is not free it shows that limit, or nothing,
-- on a free one what its working limit shows
abbrev pub displayed : Option (List LegMarket) → Bool → Option ℤ → ℤ → Option ℤ
displayed None buy limit working = limit
displayed (Some ms) buy limit working = Some (shown ms buy working)
