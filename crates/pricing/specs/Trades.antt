-- What holds of every admissible price, and of the price of a pair.
use Rattle.std.specs.Prelude.{◌≡◌, ℕ, ◌<◌, ◌≤◌, Bool, true, false, ◌⊎◌, List, [], ◌∷◌, ℤ, ◌≤ℤ◌, Some, None, Option, ◌≢◌}
use Rattle.pricing.specs.declared.market.LegMarket.{LegMarket}
use Rattle.pricing.specs.declared.market.NetPrice.{NetPrice}
use Rattle.pricing.specs.Legs.{free, net, net_bid, net_offer}
use Rattle.pricing.specs.Prices.{leg_prices, admissible}
use Rattle.pricing.specs.Pair.{priced, pair_price}

-- a fact of each leg and its price
abbrev pub Each : (LegMarket → ℕ → Type 0) → List LegMarket → List ℕ → Type 0
Each P [] xs = xs ≡ []
Each P (m ∷ ms) [] = ⊥
Each P (m ∷ ms) (x ∷ xs) = P m x × Each P ms xs

-- a fact of some leg and its price
abbrev pub Any : (LegMarket → ℕ → Type 0) → List LegMarket → List ℕ → Type 0
Any P [] xs = ⊥
Any P (m ∷ ms) [] = ⊥
Any P (m ∷ ms) (x ∷ xs) = P m x ⊎ Any P ms xs

-- from the best bid to the best offer
abbrev pub InMarket : LegMarket → ℕ → Type 0
InMarket m x = (m.bid.price ≤ x) × (x ≤ m.offer.price)

-- strictly between them
abbrev pub Improving : LegMarket → ℕ → Type 0
Improving m x = (m.bid.price < x) × (x < m.offer.price)

-- a best bid or offer of which a Priority Customer has a part
abbrev pub AtCustomer : LegMarket → ℕ → Type 0
AtCustomer m x = ((x ≡ m.bid.price) × (0 < m.bid.customer)) ⊎ ((x ≡ m.offer.price) × (0 < m.offer.customer))

-- what holds of the leg prices of an admissible price
pub record Fair (ms : List LegMarket) (p : ℤ) (xs : List ℕ) : Type 0 where
  pub unlocked : free ms ≡ true
  pub above : net_bid ms ≤ℤ p
  pub below : p ≤ℤ net_offer ms
  pub markets : Each InMarket ms xs
  pub sum : net ms xs ≡ p
  pub customers : Any AtCustomer ms xs → Any Improving ms xs

-- of every one
abbrev pub AllFair : List LegMarket → Type 0
AllFair ms = (p : ℤ) (xs : List ℕ) → leg_prices ms p ≡ Some xs → Fair ms p xs

-- within both limits
abbrev pub Within : ℤ → ℤ → ℤ → Type 0
Within buy sell p = (sell ≤ℤ p) × (p ≤ℤ buy)

-- no price within both limits is admissible
abbrev pub NoneWithin : List LegMarket → ℤ → ℤ → Type 0
NoneWithin ms buy sell = (p : ℤ) → Within buy sell p → admissible ms p ≢ true

-- a price is found exactly if one within both limits is admissible, and then with its leg prices
abbrev pub Found : List LegMarket → ℤ → ℤ → Option NetPrice → Type 0
Found ms buy sell None = NoneWithin ms buy sell
Found ms buy sell (Some t) = Within buy sell t.price × (admissible ms t.price ≡ true) × (priced ms t.price ≡ Some t)

-- it is the first in its direction: no higher one is admissible if the buy is older, no lower one if the sell is
abbrev pub First : List LegMarket → ℤ → ℤ → Bool → Option NetPrice → Type 0
First ms buy sell older None = Unit {0}
First ms buy sell true (Some t) = (p : ℤ) → Within buy sell p → admissible ms p ≡ true → p ≤ℤ t.price
First ms buy sell false (Some t) = (p : ℤ) → Within buy sell p → admissible ms p ≡ true → t.price ≤ℤ p

-- where none is found, a lower buy limit or a higher sell limit finds none
abbrev pub Narrower : List LegMarket → ℤ → ℤ → Option NetPrice → Type 0
Narrower ms buy sell r = r ≡ None → (buy' sell' : ℤ) (older : Bool) → buy' ≤ℤ buy → sell ≤ℤ sell' → pair_price ms buy' sell' older ≡ None
