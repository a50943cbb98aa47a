-- The leg prices of a net price, and which net prices are admissible.
use Rattle.std.specs.Prelude.{ℕ, ◌+◌, ◌-◌, ◌*◌, ◌/◌, min, Bool, false, cond, not, ◌&&◌, ◌||◌, List, [], ◌∷◌, ℤ, ◌-ℤ◌, is_some, Some, None, Option, ◌==◌, int_le, nat_lt, unsigned_abs}
use Rattle.pricing.specs.declared.market.LegMarket.{LegMarket}
use Rattle.pricing.specs.Legs.{width, free, net_bid, net_offer}

-- the cents that a leg takes of the rest: as many as its ratio goes into the rest, and no more than its width
abbrev pub cents : LegMarket → ℕ → ℕ
cents m rest = min (width m) (rest / m.ratio)

-- a bought leg is priced so many cents below its offer, a sold leg above its bid
abbrev pub price_at : LegMarket → ℕ → ℕ
price_at m k = cond m.bought (m.offer.price - k) (m.bid.price + k)

-- the rest that a leg leaves
abbrev pub left : LegMarket → ℕ → ℕ
left m rest = rest - m.ratio * cents m rest

-- the rest that all legs leave
abbrev pub rest_after : List LegMarket → ℕ → ℕ
rest_after [] rest = rest
rest_after (m ∷ ms) rest = rest_after ms (left m rest)

-- the prices of the legs, in order, each taking its cents of what those before it left
abbrev pub by_leg : List LegMarket → ℕ → List ℕ
by_leg [] rest = []
by_leg (m ∷ ms) rest = price_at m (cents m rest) ∷ by_leg ms (left m rest)

-- the price is a best bid or offer of which a Priority Customer has a part
abbrev pub at_customer : LegMarket → ℕ → Bool
at_customer m x = (x == m.bid.price && nat_lt 0 m.bid.customer) || (x == m.offer.price && nat_lt 0 m.offer.customer)

-- the price lies strictly between bid and offer
abbrev pub between : LegMarket → ℕ → Bool
between m x = nat_lt m.bid.price x && nat_lt x m.offer.price

-- some leg's price is one at which a Priority Customer waits
abbrev pub matched : List LegMarket → List ℕ → Bool
matched [] xs = false
matched (m ∷ ms) [] = false
matched (m ∷ ms) (x ∷ xs) = at_customer m x || matched ms xs

-- some leg is priced strictly between its bid and offer
abbrev pub improved : List LegMarket → List ℕ → Bool
improved [] xs = false
improved (m ∷ ms) [] = false
improved (m ∷ ms) (x ∷ xs) = between m x || improved ms xs

-- the Priority Customer rule
abbrev pub customer_rule : List LegMarket → List ℕ → Bool
customer_rule ms xs = improved ms xs || not (matched ms xs)

-- how far a net price lies below the net offer
abbrev pub rest_at : List LegMarket → ℤ → ℕ
rest_at ms p = unsigned_abs (net_offer ms -ℤ p)

-- the price lies in the net market, both ends included
abbrev pub in_net : List LegMarket → ℤ → Bool
in_net ms p = int_le (net_bid ms) p && int_le p (net_offer ms)

-- the legs make the price exactly, and the Priority Customer rule holds of their prices
abbrev pub exact : List LegMarket → ℕ → Bool
exact ms rest = rest_after ms rest == 0 && customer_rule ms (by_leg ms rest)

-- the strategy is free, the price lies in its net market, and the legs make it
abbrev pub allowed : List LegMarket → ℤ → Bool
allowed ms p = free ms && (in_net ms p && exact ms (rest_at ms p))

-- the leg prices of a net price; nothing where it is not admissible
unfoldable pub leg_prices : List LegMarket → ℤ → Option (List ℕ)
leg_prices ms p = cond (allowed ms p) (Some (by_leg ms (rest_at ms p))) None

abbrev pub admissible : List LegMarket → ℤ → Bool
admissible ms p = is_some (leg_prices ms p)
