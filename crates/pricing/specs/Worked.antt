-- Worked cases of prices, by computation: a spread of ratios 1 and 1, and one of ratios 2 and 3.
use Rattle.std.specs.Prelude.{◌≡◌, ℕ, Bool, true, false, cond, List, [], ◌∷◌, ℤ, pos, is_some, Some, None, Option, ◌==◌}
use Rattle.simple.specs.declared.lot.Side.{Side}
use Rattle.simple.specs.declared.lot.Side.TheVariants.{Bid, Offer}
use Rattle.simple.specs.declared.lot.Lot.{Lot}
use Rattle.simple.specs.Lots.{Lots, lot_at}
use Rattle.strategies.specs.declared.leg.Leg.{Leg}
use Rattle.pricing.specs.declared.market.LegMarket.{LegMarket}
use Rattle.pricing.specs.declared.market.NetPrice.{NetPrice}
use Rattle.pricing.specs.Prices.{leg_prices}
use Rattle.pricing.specs.Pair.{pair_price}
use Rattle.pricing.specs.Reading.{leg_market, markets_of, net_market}

-- one lot of 20 contracts a side, none of a Priority Customer
abbrev pub twenty : ℕ → ℕ → Side → List Lot
twenty bid offer Bid = lot_at bid 20 false ∷ []
twenty bid offer Offer = lot_at offer 20 false ∷ []

abbrev pub no_lots : Side → List Lot
no_lots d = []

-- a book of two series, 10 and 11
abbrev pub two_series : (Side → List Lot) → (Side → List Lot) → Lots
two_series ten eleven s = cond (s == 10) ten (cond (s == 11) eleven no_lots)

-- the spread: series 10 bought, series 11 sold
abbrev pub spread : ℕ → ℕ → List Leg
spread a b = record { series = 10; bought = true; ratio = a } ∷ record { series = 11; bought = false; ratio = b } ∷ []

-- the books of the two spreads
abbrev pub even_book : Lots
even_book = two_series (twenty 300 310) (twenty 120 125)

abbrev pub uneven_book : Lots
uneven_book = two_series (twenty 300 302) (twenty 120 122)

-- a price is asked of the markets, where there are some
abbrev pub on : {X : Type 0} → Option (List LegMarket) → (List LegMarket → Option X) → Option X
on None f = None
on (Some ms) f = f ms

abbrev pub trade : ℕ → List ℕ → Option NetPrice
trade p xs = Some (record { price = pos p; legs = xs })

abbrev pub net : ℕ → ℕ → Option (ℤ × ℤ)
net b o = Some (pos b, pos o)

-- a leg of series 10 against a market of this width
abbrev pub open_at : ℕ → ℕ → Bool
open_at bid offer = is_some (leg_market (two_series (twenty bid offer) no_lots) (record { series = 10; bought = true; ratio = 1 }))

pub record Worked : Type 0 where
  pub even_net : ◌≡◌ {A = Option (ℤ × ℤ)} (net_market even_book (spread 1 1)) (net 175 190)
  pub older_buy_pays_its_limit : on (markets_of even_book (spread 1 1)) (λ ms. pair_price ms (pos 185) (pos 180) true) ≡ trade 185 (305 ∷ 120 ∷ 0 ∷ 0 ∷ [])
  pub older_sell_gets_its_limit : on (markets_of even_book (spread 1 1)) (λ ms. pair_price ms (pos 185) (pos 180) false) ≡ trade 180 (300 ∷ 120 ∷ 0 ∷ 0 ∷ [])
  pub uneven_net : ◌≡◌ {A = Option (ℤ × ℤ)} (net_market uneven_book (spread 2 3)) (net 234 244)
  pub legs_make_the_price : on (markets_of uneven_book (spread 2 3)) (λ ms. leg_prices ms (pos 240)) ≡ Some (300 ∷ 120 ∷ [])
  pub a_cent_is_left : on (markets_of uneven_book (spread 2 3)) (λ ms. leg_prices ms (pos 241)) ≡ None
  pub widest_is_open : open_at 100 600 ≡ true
  pub wider_is_not : open_at 100 601 ≡ false
