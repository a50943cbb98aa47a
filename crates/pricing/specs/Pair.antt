-- The price at which a buy and a sell trade: the first admissible one in their range.
use Rattle.std.specs.Prelude.{ℕ, zero, suc, Bool, cond, List, ℤ, pos, ◌+ℤ◌, ◌-ℤ◌, None, Option, int_le, unsigned_abs}
use Rattle.std.specs.Int.{int_min, int_max}
use Rattle.std.specs.Option.{option_map, option_or}
use Rattle.pricing.specs.declared.market.LegMarket.{LegMarket}
use Rattle.pricing.specs.declared.market.NetPrice.{NetPrice}
use Rattle.pricing.specs.Legs.{net_bid, net_offer, in_places}
use Rattle.pricing.specs.Prices.{leg_prices}

-- the range: from the higher of sell limit and net bid
abbrev pub lowest : List LegMarket → ℤ → ℤ
lowest ms sell = int_max sell (net_bid ms)

-- to the lower of buy limit and net offer
abbrev pub highest : List LegMarket → ℤ → ℤ
highest ms buy = int_min buy (net_offer ms)

-- how many prices it has, a cent apart
abbrev pub tries : ℤ → ℤ → ℕ
tries low high = cond (int_le low high) (suc (unsigned_abs (high -ℤ low))) 0

-- the price that is tried after k others: downward if the buy is older, upward if the sell is
abbrev pub nth : Bool → ℤ → ℤ → ℕ → ℤ
nth older low high k = cond older (high -ℤ pos k) (low +ℤ pos k)

-- a net price with its leg prices, if it has some
abbrev pub priced : List LegMarket → ℤ → Option NetPrice
priced ms p = option_map (λ xs. record { price = p; legs = in_places ms xs }) (leg_prices ms p)

-- the first that is something of n answers
abbrev pub first : {X : Type 0} → (ℕ → Option X) → ℕ → Option X
first at zero = None
first at (suc n) = option_or (first at n) (at n)

-- the buy's limit, the sell's, and whether the buy is older
unfoldable pub pair_price : List LegMarket → ℤ → ℤ → Bool → Option NetPrice
pair_price ms buy sell older = first (λ k. priced ms (nth older (lowest ms sell) (highest ms buy) k)) (tries (lowest ms sell) (highest ms buy))
