-- What holds of admissible prices and of the price of a pair, from their definitions.
use Rattle.std.proofs.Common.{◌≡◌, ℕ, ◌+◌, ◌-◌, ◌*◌, ◌<◌, ◌≤◌, Bool, true, false, cond, not, ◌&&◌, eqb, ltb, leb, List, [], ◌∷◌, ℤ, pos, ◌+ℤ◌, ◌-ℤ◌, neg_ℤ, nat_abs, ◌≤ℤ◌, is_some, Some, None, Option, sym, refl, ap, ◌∙◌, inl, inr, ⊎_elim, mul-le-mul_left, mul-add, arith}
use native.Mathlib.Nat.{mul-sub}
use lib.Signed.{le_z}
use Rattle.std.proofs.lemmas.Int.{ints, clamps}
use Rattle.std.proofs.lemmas.Bool.{cases_lt, and_parts, true≢false, eqb-true, eq-eqb, ltb-true, lt-ltb, or_left, or_right, or_cases, not-true}
use Rattle.std.specs.Option.{option_map}
use Rattle.std.proofs.lemmas.Option.{none-some}
use Rattle.pricing.specs.declared.market.LegMarket.{LegMarket}
use Rattle.pricing.specs.declared.market.NetPrice.{NetPrice}
use Rattle.pricing.specs.Legs.{width, is_open, free, signed, net, offer_part, net_bid, net_offer, in_places}
use Rattle.pricing.specs.Prices.{cents, price_at, left, rest_after, by_leg, at_customer, between, matched, improved, customer_rule, rest_at, in_net, exact, allowed, leg_prices, admissible}
use Rattle.pricing.specs.Pair.{lowest, highest, tries, nth, priced, pair_price}
use Rattle.pricing.specs.Trades.{Each, Any, InMarket, Improving, AtCustomer, Fair, AllFair, Within, NoneWithin, Found, First, Narrower}
use Rattle.pricing.proofs.Split.{cents_fit}
use Rattle.pricing.proofs.Search.{first_none_all, first_some}

clash : {X : Type 0} → true ≡ false → X
clash e = absurd (true≢false e)

-- one leg
open_tells : (m : LegMarket) → is_open m ≡ true → m.bid.price < m.offer.price
open_tells m e = ltb-true m.bid.price m.offer.price (and_parts (ltb m.bid.price m.offer.price) (leb (width m) 500) e).0

leg_in : (m : LegMarket) (k : ℕ) → m.bid.price < m.offer.price → k ≤ width m → InMarket m (price_at m k)
leg_in m k o h = go m.bought
  where
    go : (b : Bool) → InMarket m (cond b (m.offer.price - k) (m.bid.price + k))
    go true = (omega arith, omega arith)
    go false = (omega arith, omega arith)

leg_net : (m : LegMarket) (k : ℕ) → m.bid.price < m.offer.price → k ≤ width m → signed m (price_at m k) +ℤ pos (m.ratio * k) ≡ offer_part m
leg_net m k o h = go m.bought
  where
    fits : m.ratio * k ≤ m.ratio * m.offer.price
    fits = let k≤ : k ≤ m.offer.price = omega arith in mul-le-mul_left m.ratio k≤

    go : (b : Bool) → cond b (pos (m.ratio * cond b (m.offer.price - k) (m.bid.price + k))) (neg_ℤ (pos (m.ratio * cond b (m.offer.price - k) (m.bid.price + k)))) +ℤ pos (m.ratio * k) ≡ cond b (pos (m.ratio * cond b m.offer.price m.bid.price)) (neg_ℤ (pos (m.ratio * cond b m.offer.price m.bid.price)))
    go true = omega (arith, ints, mul-sub m.ratio m.offer.price k, fits)
    go false = omega (arith, ints, mul-add m.ratio m.bid.price k)

-- all legs
legs_in : (ms : List LegMarket) (rest : ℕ) → free ms ≡ true → Each InMarket ms (by_leg ms rest)
legs_in [] rest f = refl
legs_in (m ∷ ms) rest f =
    let both = and_parts (is_open m) (free ms) f in
    (leg_in m (cents m rest) (open_tells m both.0) (omega arith), legs_in ms (left m rest) both.1)

legs_net : (ms : List LegMarket) (rest : ℕ) → free ms ≡ true → net ms (by_leg ms rest) +ℤ pos rest ≡ net_offer ms +ℤ pos (rest_after ms rest)
unfolding net_offer
legs_net [] rest f = refl
legs_net (m ∷ ms) rest f =
    let both = and_parts (is_open m) (free ms) f in
    let one = leg_net m (cents m rest) (open_tells m both.0) (omega arith) in
    let rest_of = legs_net ms (left m rest) both.1 in
    omega (arith, ints, one, rest_of, cents_fit m rest)

any_matched : (ms : List LegMarket) (xs : List ℕ) → Any AtCustomer ms xs → matched ms xs ≡ true
any_matched [] xs a = absurd a
any_matched (m ∷ ms) [] a = absurd a
any_matched (m ∷ ms) (x ∷ xs) (inl (inl a)) = rw (eq-eqb x m.bid.price a.0, lt-ltb 0 m.bid.customer a.1)
any_matched (m ∷ ms) (x ∷ xs) (inl (inr a)) = or_left (at_customer m x) (matched ms xs) (or_right (eqb x m.bid.price && ltb 0 m.bid.customer) (eqb x m.offer.price && ltb 0 m.offer.customer) (rw (eq-eqb x m.offer.price a.0, lt-ltb 0 m.offer.customer a.1)))
any_matched (m ∷ ms) (x ∷ xs) (inr a) = or_right (at_customer m x) (matched ms xs) (any_matched ms xs a)

improved_any : (ms : List LegMarket) (xs : List ℕ) → improved ms xs ≡ true → Any Improving ms xs
improved_any [] xs e = clash (sym e)
improved_any (m ∷ ms) [] e = clash (sym e)
improved_any (m ∷ ms) (x ∷ xs) e =
    ⊎_elim (λ t. let b = and_parts (ltb m.bid.price x) (ltb x m.offer.price) t in inl (ltb-true m.bid.price x b.0, ltb-true x m.offer.price b.1))
    (λ t. inr (improved_any ms xs t))
    (or_cases (between m x) (improved ms xs) e)

rule_tells : (ms : List LegMarket) (xs : List ℕ) → customer_rule ms xs ≡ true → Any AtCustomer ms xs → Any Improving ms xs
rule_tells ms xs e a =
    improved_any ms xs (⊎_elim (λ t. t) (λ t. clash (sym (any_matched ms xs a) ∙ not-true (matched ms xs) t)) (or_cases (improved ms xs) (not (matched ms xs)) e))

-- what a price that is allowed tells
allowed_fair : (ms : List LegMarket) (p : ℤ) → allowed ms p ≡ true → Fair ms p (by_leg ms (rest_at ms p))
allowed_fair ms p e =
    let a = and_parts (free ms) (in_net ms p && exact ms (rest_at ms p)) e in
    let b = and_parts (in_net ms p) (exact ms (rest_at ms p)) a.1 in
    let w = and_parts (le_z (net_bid ms) p) (le_z p (net_offer ms)) b.0 in
    let x = and_parts (eqb (rest_after ms (rest_at ms p)) 0) (customer_rule ms (by_leg ms (rest_at ms p))) b.1 in
    let low = w.0 in
    let high = w.1 in
    let above : net_bid ms ≤ℤ p = grind (arith, ints) in
    let below : p ≤ℤ net_offer ms = grind (arith, ints) in
    let none = eqb-true (rest_after ms (rest_at ms p)) 0 x.0 in
    record {
      unlocked = a.0;
      above = above;
      below = below;
      markets = legs_in ms (rest_at ms p) a.0;
      sum = omega (arith, ints, legs_net ms (rest_at ms p) a.0, below, none);
      customers = rule_tells ms (by_leg ms (rest_at ms p)) x.1;
    }

pub all_fair : (ms : List LegMarket) → AllFair ms
unfolding leg_prices
all_fair ms p xs = go (allowed ms p) refl
  where
    go : (t : Bool) → allowed ms p ≡ t → cond t (Some (by_leg ms (rest_at ms p))) None ≡ Some xs → Fair ms p xs
    go true e s = let same : by_leg ms (rest_at ms p) ≡ xs = cc in rw (← same) (allowed_fair ms p e)
    go false e s = absurd (none-some xs s)

-- a price with leg prices is admissible, and lies in the net market
priced_tells : (ms : List LegMarket) (p : ℤ) (t : NetPrice) → priced ms p ≡ Some t → (t.price ≡ p) × (admissible ms p ≡ true)
priced_tells ms p t e = go (leg_prices ms p) e
  where
    go : (o : Option (List ℕ)) → option_map (λ xs. record { price = p; legs = in_places ms xs }) o ≡ Some t → (t.price ≡ p) × (is_some o ≡ true)
    go None s = absurd (none-some t s)
    go (Some xs) s = let same : record { price = p; legs = in_places ms xs } ≡ t = cc in (ap (λ (u : NetPrice). u.price) (sym same), refl)

unpriced_tells : (ms : List LegMarket) (p : ℤ) → priced ms p ≡ None → admissible ms p ≡ true → ⊥
unpriced_tells ms p e = go (leg_prices ms p) e
  where
    go : (o : Option (List ℕ)) → option_map {U = NetPrice} (λ xs. record { price = p; legs = in_places ms xs }) o ≡ None → is_some o ≡ true → ⊥
    go None s a = clash (sym a)
    go (Some xs) s a = absurd (none-some (record { price = p; legs = in_places ms xs }) (sym s))

admissible_in : (ms : List LegMarket) (p : ℤ) → admissible ms p ≡ true → (net_bid ms ≤ℤ p) × (p ≤ℤ net_offer ms)
admissible_in ms p a = go (leg_prices ms p) refl a
  where
    go : (o : Option (List ℕ)) → leg_prices ms p ≡ o → is_some o ≡ true → (net_bid ms ≤ℤ p) × (p ≤ℤ net_offer ms)
    go None e a = clash (sym a)
    go (Some xs) e a = let fair = all_fair ms p xs e in (fair.above, fair.below)

-- the prices that are tried are those of the range
module _ (low high : ℤ) where
  tried_in : (k : ℕ) → k < tries low high → pos k ≤ℤ (high -ℤ low)
  tried_in k h = grind (arith, ints)

  in_tried : (k : ℕ) → pos k ≤ℤ (high -ℤ low) → k < tries low high
  in_tried k h = grind (arith, ints)

  nth_within : (older : Bool) (k : ℕ) → pos k ≤ℤ (high -ℤ low) → (low ≤ℤ nth older low high k) × (nth older low high k ≤ℤ high)
  nth_within true k h = (omega (arith, ints), omega (arith, ints))
  nth_within false k h = (omega (arith, ints), omega (arith, ints))

  -- where a price of the range is tried
  place : Bool → ℤ → ℕ
  place true p = nat_abs (high -ℤ p)
  place false p = nat_abs (p -ℤ low)

  nth_place : (older : Bool) (p : ℤ) → low ≤ℤ p → p ≤ℤ high → (p ≡ nth older low high (place older p)) × (pos (place older p) ≤ℤ (high -ℤ low))
  unfolding place
  nth_place true p l h = (omega (arith, ints), omega (arith, ints))
  nth_place false p l h = (omega (arith, ints), omega (arith, ints))

module _ (ms : List LegMarket) (buy sell : ℤ) where
  range_within : (p : ℤ) → lowest ms sell ≤ℤ p → p ≤ℤ highest ms buy → Within buy sell p
  range_within p l h = (omega (arith, ints, clamps), omega (arith, ints, clamps))

  within_range : (p : ℤ) → Within buy sell p → admissible ms p ≡ true → (lowest ms sell ≤ℤ p) × (p ≤ℤ highest ms buy)
  within_range p w e =
      let t = admissible_in ms p e in
      (omega (arith, ints, clamps, t.0), omega (arith, ints, clamps, t.1))

  module _ (older : Bool) where
    abbrev tried : ℕ → Option NetPrice
    tried k = priced ms (nth older (lowest ms sell) (highest ms buy) k)

    none_within : pair_price ms buy sell older ≡ None → NoneWithin ms buy sell
    unfolding pair_price
    none_within none p w e =
        let r = within_range p w e in
        let at = nth_place (lowest ms sell) (highest ms buy) older p r.0 r.1 in
        let k = place (lowest ms sell) (highest ms buy) older p in
        let f = first_none_all tried (tries (lowest ms sell) (highest ms buy)) none k (in_tried (lowest ms sell) (highest ms buy) k at.1) in
        unpriced_tells ms p (ap (priced ms) at.0 ∙ f) e

    pub found : Found ms buy sell (pair_price ms buy sell older)
    unfolding pair_price
    found = go (pair_price ms buy sell older) refl
      where
        go : (o : Option NetPrice) → pair_price ms buy sell older ≡ o → Found ms buy sell o
        go None e = none_within e
        go (Some t) e =
            let s = first_some tried (tries (lowest ms sell) (highest ms buy)) t e in
            let p : ℤ = nth older (lowest ms sell) (highest ms buy) s.0 in
            let tells = priced_tells ms p t s.2 in
            let within = nth_within (lowest ms sell) (highest ms buy) older s.0 (tried_in (lowest ms sell) (highest ms buy) s.0 s.1) in
            (rw tells.0 (range_within p within.0 within.1), rw tells.0 tells.1, ap (priced ms) tells.0 ∙ s.2)

    -- a price that was tried before the one that was found has no leg prices
    later : (t : NetPrice) (q : ℤ) → pair_price ms buy sell older ≡ Some t → Within buy sell q → admissible ms q ≡ true → (k : ℕ) × (t.price ≡ nth older (lowest ms sell) (highest ms buy) k) × (q ≡ nth older (lowest ms sell) (highest ms buy) (place (lowest ms sell) (highest ms buy) older q)) × (k ≤ place (lowest ms sell) (highest ms buy) older q)
    unfolding pair_price
    later t q e w a =
        let s = first_some tried (tries (lowest ms sell) (highest ms buy)) t e in
        let r = within_range q w a in
        let at = nth_place (lowest ms sell) (highest ms buy) older q r.0 r.1 in
        let j = place (lowest ms sell) (highest ms buy) older q in
        let k≤ : s.0 ≤ j = ⊎_elim (λ lt. absurd (unpriced_tells ms q (ap (priced ms) at.0 ∙ s.3 j lt) a)) (λ le. le) (cases_lt j s.0) in
        (s.0, (priced_tells ms (nth older (lowest ms sell) (highest ms buy) s.0) t s.2).0, at.0, k≤)

  pub first_one : (older : Bool) → First ms buy sell older (pair_price ms buy sell older)
  unfolding place
  first_one older = go older (pair_price ms buy sell older) refl
    where
      go : (older : Bool) (o : Option NetPrice) → pair_price ms buy sell older ≡ o → First ms buy sell older o
      go true None e = tt
      go false None e = tt
      go true (Some t) e = λ q w a. let r = later true t q e w a in omega (arith, ints, r.1, r.2, r.3)
      go false (Some t) e = λ q w a. let r = later false t q e w a in omega (arith, ints, r.1, r.2, r.3)

-- where no price is admissible within the limits, none is found
pub none_found : (ms : List LegMarket) (buy sell : ℤ) (older : Bool) → NoneWithin ms buy sell → pair_price ms buy sell older ≡ None
none_found ms buy sell older none = go (pair_price ms buy sell older) refl (found ms buy sell older)
  where
    go : (o : Option NetPrice) → pair_price ms buy sell older ≡ o → Found ms buy sell o → pair_price ms buy sell older ≡ None
    go None e f = e
    go (Some t) e f = absurd (none t.price f.0 f.1)

pub narrower : (ms : List LegMarket) (buy sell : ℤ) (older : Bool) → Narrower ms buy sell (pair_price ms buy sell older)
narrower ms buy sell older none buy' sell' older' b s =
    none_found ms buy' sell' older' (λ p w. none_within ms buy sell older none p (omega (arith, ints, w.0), omega (arith, ints, w.1)))
