-- The markets of a strategy's legs, as a simple book has them.
use Rattle.std.specs.Prelude.{◌≡◌, true, cond, List, [], ◌∷◌, ℤ, Some, None, Option}
use Rattle.std.specs.Option.{option_map}
use Rattle.simple.specs.declared.lot.Side.TheVariants.{Bid, Offer}
use Rattle.simple.specs.declared.lot.Best.{Best}
use Rattle.simple.specs.Lots.{Lots}
use Rattle.simple.specs.Best.{best_of}
use Rattle.strategies.specs.declared.leg.Leg.{Leg}
use Rattle.pricing.specs.declared.market.LegMarket.{LegMarket}
use Rattle.pricing.specs.Legs.{is_open, net_bid, net_offer}
use Rattle.pricing.specs.Prices.{admissible}

-- a leg against its best bid and its best offer
abbrev pub market : Leg → Best → Best → LegMarket
market leg b o = record { bought = leg.bought; ratio = leg.ratio; bid = b; offer = o }

-- nothing unless the leg is open
abbrev pub if_open : LegMarket → Option LegMarket
if_open m = cond (is_open m) (Some m) None

-- both sides must have a lot
abbrev pub with_bests : Leg → Option Best → Option Best → Option LegMarket
with_bests leg None o = None
with_bests leg (Some b) None = None
with_bests leg (Some b) (Some o) = if_open (market leg b o)

-- the market of a leg, where it is open
abbrev pub leg_market : Lots → Leg → Option LegMarket
leg_market b leg = with_bests leg (best_of (b leg.series Bid)) (best_of (b leg.series Offer))

abbrev pub with_front : {X : Type 0} → Option X → Option (List X) → Option (List X)
with_front None xs = None
with_front (Some x) None = None
with_front (Some x) (Some xs) = Some (x ∷ xs)

-- the markets of the legs: nothing unless the strategy is free
unfoldable pub markets_of : Lots → List Leg → Option (List LegMarket)
markets_of b [] = Some []
markets_of b (leg ∷ legs) = with_front (leg_market b leg) (markets_of b legs)

-- net bid and net offer together: nothing unless the strategy is free
abbrev pub net_market : Lots → List Leg → Option (ℤ × ℤ)
net_market b legs = option_map (λ ms. (net_bid ms, net_offer ms)) (markets_of b legs)

-- a net price that is admissible on a book: the strategy is free there, and the price has leg prices
abbrev pub Admissible : Lots → List Leg → ℤ → Type 0
Admissible b legs p = (ms : List LegMarket) × (markets_of b legs ≡ Some ms) × (admissible ms p ≡ true)

-- nothing is admissible where the strategy is not free
abbrev pub Closed : Lots → List Leg → Option (List LegMarket) → Type 0
Closed b legs r = r ≡ None → (p : ℤ) → Admissible b legs p → ⊥
