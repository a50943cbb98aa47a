-- What an order trades at with the simple book, and how much of it.
use Rattle.std.specs.Prelude.{◌≡◌, ℕ, ◌*◌, ◌/◌, ◌≤◌, min, Bool, true, false, cond, not, List, map, ℤ, ◌≤ℤ◌, MatchBool, fold, int_le}
use Rattle.std.specs.List.{AllByRecursion}
use Rattle.pricing.specs.declared.market.LegMarket.{LegMarket}
use Rattle.pricing.specs.declared.market.NetPrice.{NetPrice}
use Rattle.pricing.specs.Legs.{net_bid, net_offer, in_places}

-- a buy takes the offers of bought and the bids of sold legs, a sell the reverse
abbrev pub lifts : Bool → LegMarket → Bool
lifts buy m = cond buy m.bought (not m.bought)

-- the price of the best that the order takes
abbrev pub price_taken : Bool → LegMarket → ℕ
price_taken buy m = cond (lifts buy m) m.offer.price m.bid.price

-- its size
abbrev pub size_taken : Bool → LegMarket → ℕ
size_taken buy m = cond (lifts buy m) m.offer.size m.bid.size

-- how many strategies it gives: size divided by ratio, rounded down
abbrev pub available : Bool → LegMarket → ℕ
available buy m = size_taken buy m / m.ratio

-- the least of a quantity and of what each leg gives
unfoldable pub most : List LegMarket → Bool → ℕ → ℕ
most ms buy q = fold (λ n m. min n (available buy m)) q ms

-- net offer for a buy, net bid for a sell
abbrev pub net_taken : List LegMarket → Bool → ℤ
net_taken ms buy = cond buy (net_offer ms) (net_bid ms)

-- a buy's limit is at least the net offer, a sell's at most the net bid
abbrev pub reaches : List LegMarket → Bool → ℤ → Bool
reaches ms buy limit = cond buy (int_le (net_offer ms) limit) (int_le limit (net_bid ms))

-- how much of an order can be legged on a free strategy: nothing where its limit does not reach
abbrev pub legged_quantity : List LegMarket → Bool → ℤ → ℕ → ℕ
legged_quantity ms buy limit q = cond (reaches ms buy limit) (most ms buy q) 0

-- the prices of the bests that it takes
unfoldable pub prices_taken : List LegMarket → Bool → List ℕ
prices_taken ms buy = in_places ms (map (price_taken buy) ms)

-- what a legged order trades at
abbrev pub taken_at : List LegMarket → Bool → NetPrice
taken_at ms buy = record { price = net_taken ms buy; legs = prices_taken ms buy }

-- so many strategies fit: no more than the order has, and ratio times as many within each best size
abbrev pub Fits : List LegMarket → Bool → ℕ → ℕ → Type 0
Fits ms buy q n = (n ≤ q) × AllByRecursion (λ m. m.ratio * n ≤ size_taken buy m) ms

-- the quantity is the greatest that fits, where the limit reaches
pub record Greatest (ms : List LegMarket) (buy : Bool) (limit : ℤ) (q n : ℕ) : Type 0 where
  pub fits : Fits ms buy q n
  pub most : reaches ms buy limit ≡ true → (k : ℕ) → Fits ms buy q k → k ≤ n
  pub none : reaches ms buy limit ≡ false → n ≡ 0

-- with a better limit no less can be legged: a higher one of a buy, a lower one of a sell
abbrev pub Eased : List LegMarket → Bool → ℤ → ℕ → ℕ → Type 0
Eased ms buy limit q n = (limit' : ℤ) → MatchBool buy (limit ≤ℤ limit') (limit' ≤ℤ limit) → n ≤ legged_quantity ms buy limit' q
