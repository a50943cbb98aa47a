use Rattle.std.proofs.Common.{◌≡◌, ℕ, ◌+◌, true, false, not, ◌&&◌, ◌||◌, eqb, List, ℤ, ◌-ℤ◌, nat_abs, ◌≤ℤ◌, ◌<ℤ◌, Some, None, Option, sym, ap, ◌∙◌, arith, w64, SFits, rules}
use Rattle.std.proofs.lemmas.Int.{ints, to_z-of_z}
use Rattle.pricing.specs.declared.market.LegMarket.{LegMarket}
use Rattle.pricing.specs.declared.market.NetPrice.{NetPrice}
use Rattle.pricing.specs.Legs.{net_bid, net_offer, in_places}
use Rattle.pricing.specs.Prices.{rest_at, rest_after, by_leg, customer_rule}
use Rattle.pricing.specs.Pair.{lowest, highest, priced, first, nth, pair_price}
use Rattle.pricing.proofs.Soundness.{few, leg_told, sound_at, sound_free}
use Rattle.pricing.proofs.Split.{leg_at}
use Rattle.pricing.proofs.Search.{refused_here, priced_here, first_missed, hit, missed_all, crossed}
use Rattle.pricing.proofs.Pricing.{priced_more, priced_end}
use Rattle.pricing.proofs.pair.search.Goals as goal
use Rattle.pricing.proofs.pair.search.Goals.{After-min-high, After-loop-i}

pub cents_of-cents-requires : goal.cents_of-cents-requires
cents_of-cents-requires c =
    let legs = c.legs-legs.result.now in
    (leg_told (leg_at legs c.loop-i.i) (sound_at legs c.loop-i.i _ c.legs-legs.ensures.sound c.loop-i-test.true)).some

low_is : (c : After-min-high) → c.max-low.result ≡ lowest c.legs-legs.result.now c.args.sell_limit
low_is c = rw (c.legs-legs.ensures.value, ← c.net-net_bid.ensures.bid) (grind (arith, to_z-of_z))

high_is : (c : After-min-high) → c.min-high.result ≡ highest c.legs-legs.result.now c.args.buy_limit
high_is c = rw (c.legs-legs.ensures.value, ← c.net-net_bid.ensures.offer) (grind (arith, to_z-of_z))

pub returns-then-high-low : goal.returns-then-high-low
returns-then-high-low c =
    let at = (goal.at.returns-then-high-low c).After-min-high in
    let h : c.min-high.result <ℤ c.max-low.result = omega (arith, ints) in
    crossed c.legs-legs.result.now c.args.buy_limit c.args.sell_limit c.args.buy_is_older c.max-low.result c.min-high.result (low_is at) (high_is at) h
    ∙ ap (λ (ms : List LegMarket). pair_price ms c.args.buy_limit c.args.sell_limit c.args.buy_is_older) c.legs-legs.ensures.value

pub loop-i-preserved : goal.loop-i-preserved
loop-i-preserved c =
    let short = few c.legs-legs.result.now c.legs-legs.ensures.sound in
    priced_more c.legs-legs.result.now c.loop-i.i c.loop-i-test.true
    c.cents_between-rest.result c.loop-i.rest c.loop-i.prices c.loop-i.matched c.loop-i.improved c.loop-i.invariant
    (omega arith) c.cents_of-cents.result c.price_at-leg_price.result c.is_customer_price-matched.result c.is_improved_by-improved.result
    c.cents_of-cents.ensures.value c.price_at-leg_price.ensures c.is_customer_price-matched.ensures c.is_improved_by-improved.ensures

-- the price of this turn lies in the net market, and its rest is what the legs began with
module _ (c : After-loop-i) where
  abbrev legs : List LegMarket
  legs = c.legs-legs.result.now

  bid : net_bid legs ≡ c.net-net_bid.result.0
  bid = ap net_bid c.legs-legs.ensures.value ∙ sym c.net-net_bid.ensures.bid

  offer : net_offer legs ≡ c.net-net_bid.result.1
  offer = ap net_offer c.legs-legs.ensures.value ∙ sym c.net-net_bid.ensures.offer

  above : net_bid legs ≤ℤ c.nth_price-price.result
  above = omega (arith, ints, bid)

  below : c.nth_price-price.result ≤ℤ net_offer legs
  below = omega (arith, ints, offer)

  start : c.cents_between-rest.result ≡ rest_at legs c.nth_price-price.result
  start =
      let r : c.cents_between-rest.result ≡ nat_abs (c.net-net_bid.result.1 -ℤ c.nth_price-price.result) = grind (arith, to_z-of_z) in
      r ∙ ap (λ (z : ℤ). nat_abs (z -ℤ c.nth_price-price.result)) (sym offer)

  done : (c.loop-i.rest ≡ rest_after legs c.cents_between-rest.result) × (c.loop-i.prices ≡ in_places legs (by_leg legs c.cents_between-rest.result)) × ((c.loop-i.improved || not c.loop-i.matched) ≡ customer_rule legs (by_leg legs c.cents_between-rest.result))
  done = priced_end legs c.loop-i.i c.cents_between-rest.result c.loop-i.rest c.loop-i.prices c.loop-i.matched c.loop-i.improved c.loop-i.invariant (omega arith)

  refused : (eqb c.loop-i.rest 0 && (c.loop-i.improved || not c.loop-i.matched)) ≡ false → priced legs c.nth_price-price.result ≡ None
  refused e = refused_here legs c.nth_price-price.result c.cents_between-rest.result c.loop-i.rest (c.loop-i.improved || not c.loop-i.matched) c.loop-i.prices (sound_free legs c.legs-legs.ensures.sound) above below start done.0 done.2 e

  traded : (eqb c.loop-i.rest 0 && (c.loop-i.improved || not c.loop-i.matched)) ≡ true → priced legs c.nth_price-price.result ≡ Some (record { price = c.nth_price-price.result; legs = c.loop-i.prices })
  traded e = priced_here legs c.nth_price-price.result c.cents_between-rest.result c.loop-i.rest (c.loop-i.improved || not c.loop-i.matched) c.loop-i.prices (sound_free legs c.legs-legs.ensures.sound) above below start done.0 done.2 e done.1

pub price-preserved : goal.price-preserved
price-preserved c =
    let fl : SFits w64 c.max-low.result = search rules in
    let fh : SFits w64 c.min-high.result = search rules in
    let legs : List LegMarket = c.legs-legs.result.now in
    let tried : ℕ → Option NetPrice = λ k. priced legs (nth c.args.buy_is_older c.max-low.result c.min-high.result k) in
    let miss = refused (goal.at.price-preserved c).After-loop-i (sym c.if-legs_allow.ensures) in
    let none : first tried c.price.step ≡ None = simp to_z-of_z at c.price.invariant.1 in
    let value : c.nth_price-price.result ≡ nth c.args.buy_is_older c.max-low.result c.min-high.result c.price.step = simp to_z-of_z at c.nth_price-price.ensures.value in
    (c.price.invariant.0, simp to_z-of_z (first_missed tried c.price.step none (rw (← value) miss)))

pub returns-else-legs_allow : goal.returns-else-legs_allow
returns-else-legs_allow c =
    let at = (goal.at.returns-else-legs_allow c).After-min-high in
    let fl : SFits w64 c.max-low.result = search rules in
    let fh : SFits w64 c.min-high.result = search rules in
    let legs : List LegMarket = c.legs-legs.result.now in
    let tried : ℕ → Option NetPrice = λ k. priced legs (nth c.args.buy_is_older c.max-low.result c.min-high.result k) in
    let le : c.max-low.result ≤ℤ c.min-high.result = omega (arith, ints) in
    let span : c.cents_between-step-end.result ≡ nat_abs (c.min-high.result -ℤ c.max-low.result) = grind (arith, to_z-of_z) in
    let miss = refused (goal.at.returns-else-legs_allow c).After-loop-i (sym c.if-legs_allow.ensures) in
    let none : first tried c.price.step ≡ None = simp to_z-of_z at c.price.invariant.1 in
    let value : c.nth_price-price.result ≡ nth c.args.buy_is_older c.max-low.result c.min-high.result c.price.step = simp to_z-of_z at c.nth_price-price.ensures.value in
    let more = first_missed tried c.price.step none (rw (← value) miss) in
    let last : c.price.step + 1 ≡ c.cents_between-step-end.result + 1 = omega arith in
    c.price.invariant.0
    ∙ missed_all legs c.args.buy_limit c.args.sell_limit c.args.buy_is_older c.max-low.result c.min-high.result (low_is at) (high_is at) c.cents_between-step-end.result le span (rw last at more)
    ∙ ap (λ (ms : List LegMarket). pair_price ms c.args.buy_limit c.args.sell_limit c.args.buy_is_older) c.legs-legs.ensures.value

pub returns-then-legs_allow : goal.returns-then-legs_allow
returns-then-legs_allow c =
    let at = (goal.at.returns-then-legs_allow c).After-min-high in
    let fl : SFits w64 c.max-low.result = search rules in
    let fh : SFits w64 c.min-high.result = search rules in
    let fp : SFits w64 c.nth_price-price.result = search rules in
    let legs : List LegMarket = c.legs-legs.result.now in
    let tried : ℕ → Option NetPrice = λ k. priced legs (nth c.args.buy_is_older c.max-low.result c.min-high.result k) in
    let trade = traded (goal.at.returns-then-legs_allow c).After-loop-i (sym c.if-legs_allow.ensures) in
    let le : c.max-low.result ≤ℤ c.min-high.result = omega (arith, ints) in
    let span : c.cents_between-step-end.result ≡ nat_abs (c.min-high.result -ℤ c.max-low.result) = grind (arith, to_z-of_z) in
    let none : first tried c.price.step ≡ None = simp to_z-of_z at c.price.invariant.1 in
    let value : c.nth_price-price.result ≡ nth c.args.buy_is_older c.max-low.result c.min-high.result c.price.step = simp to_z-of_z at c.nth_price-price.ensures.value in
    simp to_z-of_z
    (hit legs c.args.buy_limit c.args.sell_limit c.args.buy_is_older c.max-low.result c.min-high.result (low_is at) (high_is at)
    c.price.step c.cents_between-step-end.result _
    le span (omega arith) none (ap (priced legs) (sym value) ∙ trade)
    ∙ ap (λ (ms : List LegMarket). pair_price ms c.args.buy_limit c.args.sell_limit c.args.buy_is_older) c.legs-legs.ensures.value)

pub price_at-leg_price-requires : goal.price_at-leg_price-requires
price_at-leg_price-requires c =
    let sound = sound_at c.legs-legs.result.now c.loop-i.i _ c.legs-legs.ensures.sound c.loop-i-test.true in
    (sound, omega (arith, c.cents_of-cents.ensures.value))
