-- The markets of a strategy's legs, and their nets.
use Rattle.std.specs.Prelude.{ℕ, ◌-◌, ◌*◌, Bool, true, cond, ◌&&◌, List, [], ◌∷◌, ◌++◌, length, replicate, ℤ, pos, ◌+ℤ◌, neg_ℤ, nat_le, nat_lt}
use Rattle.pricing.specs.declared.market.LegMarket.{LegMarket}
use Rattle.pricing.specs.Limits.{widest_market, leg_places}

-- offer minus bid
abbrev pub width : LegMarket → ℕ
width m = m.offer.price - m.bid.price

-- a leg is open when its bid is below its offer, and not too far below
abbrev pub is_open : LegMarket → Bool
is_open m = nat_lt m.bid.price m.offer.price && nat_le (width m) widest_market

-- a strategy is free when all its legs are open
abbrev pub free : List LegMarket → Bool
free [] = true
free (m ∷ ms) = is_open m && free ms

-- what a leg's price adds to the net: ratio × price of a bought leg, and that taken off for a sold leg
abbrev pub signed : LegMarket → ℕ → ℤ
signed m x = cond m.bought (pos (m.ratio * x)) (neg_ℤ (pos (m.ratio * x)))

-- the net of leg prices: over the bought legs, less that over the sold
abbrev pub net : List LegMarket → List ℕ → ℤ
net [] xs = pos 0
net (m ∷ ms) [] = pos 0
net (m ∷ ms) (x ∷ xs) = signed m x +ℤ net ms xs

-- what a leg costs a buyer of the strategy: a bought leg's offer, less a sold leg's bid
abbrev pub offer_part : LegMarket → ℤ
offer_part m = signed m (cond m.bought m.offer.price m.bid.price)

-- what a leg brings a seller of the strategy: the same with bid and offer exchanged
abbrev pub bid_part : LegMarket → ℤ
bid_part m = signed m (cond m.bought m.bid.price m.offer.price)

-- what a leg adds to the net price that an order takes
abbrev pub part_taken : Bool → LegMarket → ℤ
part_taken buy m = cond buy (offer_part m) (bid_part m)

unfoldable pub net_offer : List LegMarket → ℤ
net_offer [] = pos 0
net_offer (m ∷ ms) = offer_part m +ℤ net_offer ms

unfoldable pub net_bid : List LegMarket → ℤ
net_bid [] = pos 0
net_bid (m ∷ ms) = bid_part m +ℤ net_bid ms

-- leg prices in four places, 0 where there is no leg
abbrev pub in_places : List LegMarket → List ℕ → List ℕ
in_places ms xs = xs ++ replicate (leg_places - length ms) 0
