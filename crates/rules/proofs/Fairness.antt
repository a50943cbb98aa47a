-- A step is of orders of its strategy, within their limits, at prices of the lots before it.
use Rattle.std.proofs.Common.{◌≡◌, ℕ, ◌≤◌, Bool, true, false, cond, ltb, leb, ◌⊎◌, List, ℤ, ◌≤ℤ◌, Some, None, MatchBool, Option, sym, refl, ap, subst, inl, inr, arith}
use Rattle.std.specs.Option.{option_or, option_map}
use Rattle.std.proofs.ByRecursion.{all-has}
use Rattle.std.proofs.lemmas.Int.{ints}
use Rattle.std.proofs.lemmas.Bool.{leb-true}
use Rattle.std.proofs.lemmas.Option.{none-some}
use Rattle.simple.specs.Lots.{Lots}
use Rattle.strategies.specs.declared.leg.Leg.{Leg}
use Rattle.pricing.specs.declared.market.LegMarket.{LegMarket}
use Rattle.pricing.specs.declared.market.NetPrice.{NetPrice}
use Rattle.pricing.specs.Legs.{in_places}
use Rattle.pricing.specs.Prices.{leg_prices, admissible}
use Rattle.pricing.specs.Pair.{priced, pair_price}
use Rattle.pricing.specs.Legging.{most, net_taken, reaches, legged_quantity, taken_at, Fits}
use Rattle.pricing.specs.Trades.{Found}
use Rattle.pricing.specs.Reading.{markets_of}
use Rattle.pricing.proofs.Trades.{found, all_fair}
use Rattle.pricing.proofs.Taking.{most_fits}
use Rattle.rules.specs.declared.order.Order.{Order}
use Rattle.rules.specs.Orders.{limit_of, best_order}
use Rattle.rules.specs.Steps.{Step, pair, legged, pair_of, leg_for, leg_of, number_in, older, step_with, step_on, trading, step_of, execution_of}
use Rattle.rules.specs.Laws.{Paired}
use Rattle.rules.proofs.Ready.{Ready, Mine, StepFair}
use Rattle.rules.proofs.Bests.{some_same, best_mine}

-- a step that is there is one of its parts
pub or_some : (x y : Option Step) (z : Step) → option_or x y ≡ Some z → (x ≡ Some z) ⊎ (y ≡ Some z)
or_some None y z e = inr e
or_some (Some x) y z e = inl e

pub older_some : (x y : Option Step) (z : Step) → older x y ≡ Some z → (x ≡ Some z) ⊎ (y ≡ Some z)
older_some None y z e = inr e
older_some (Some x) None z e = inl e
older_some (Some x) (Some y) z e = go (ltb (number_in x) (number_in y)) e
  where
    go : (t : Bool) → cond t (Some x) (Some y) ≡ Some z → (Some x ≡ Some z) ⊎ (Some y ≡ Some z)
    go true e = inl e
    go false e = inr e

pub legged_tells : (ms : List LegMarket) (o : Order) (q : ℕ) (z : Step) → leg_for ms o q ≡ Some z → (1 ≤ q) × (legged o q (taken_at ms o.buy) ≡ z)
legged_tells ms o q z e = go (leb 1 q) refl e
  where
    go : (t : Bool) → leb 1 q ≡ t → cond t (Some (legged o q (taken_at ms o.buy))) None ≡ Some z → (1 ≤ q) × (legged o q (taken_at ms o.buy) ≡ z)
    go false t e = absurd (none-some z e)
    go true t e = (leb-true 1 q t, some_same (legged o q (taken_at ms o.buy)) z e)

-- what can be legged: the limit reaches the net price, and so many fit
pub record Reached (ms : List LegMarket) (buy : Bool) (limit : ℤ) (q n : ℕ) : Type 0 where
  pub within : MatchBool buy (net_taken ms buy ≤ℤ limit) (limit ≤ℤ net_taken ms buy)
  pub fits : Fits ms buy q n

pub reach_within : (ms : List LegMarket) (buy : Bool) (limit : ℤ) → reaches ms buy limit ≡ true → MatchBool buy (net_taken ms buy ≤ℤ limit) (limit ≤ℤ net_taken ms buy)
reach_within ms true limit e = grind (arith, ints)
reach_within ms false limit e = grind (arith, ints)

pub reached : (ms : List LegMarket) (buy : Bool) (limit : ℤ) (q : ℕ) → 1 ≤ legged_quantity ms buy limit q → Reached ms buy limit q (legged_quantity ms buy limit q)
reached ms buy limit q h = go (reaches ms buy limit) refl h
  where
    go : (t : Bool) → reaches ms buy limit ≡ t → 1 ≤ cond t (most ms buy q) 0 → Reached ms buy limit q (cond t (most ms buy q) 0)
    go true e h = record { within = reach_within ms buy limit e; fits = most_fits ms buy q }
    go false e h = absurd (omega arith)

module _ (legs : List Leg) (s : ℕ) (os : List Order) (b : Lots) (ready : Ready os) (ms : List LegMarket) (free : markets_of b legs ≡ Some ms) where
  -- a price with leg prices is what a pair records
  pub paired : (x y : Order) (t : NetPrice) → admissible ms t.price ≡ true → priced ms t.price ≡ Some t → Paired legs b (execution_of s (pair x y t))
  paired x y t ok e = go (leg_prices ms t.price) refl e
    where
      go : (o : Option (List ℕ)) → leg_prices ms t.price ≡ o → option_map (λ xs. record { price = t.price; legs = in_places ms xs }) o ≡ Some t → Paired legs b (execution_of s (pair x y t))
      go None ep e = absurd (none-some t e)
      go (Some xs) ep e =
          let same : record { price = t.price; legs = in_places ms xs } ≡ t = cc in
          record {
            markets = ms;
            free = free;
            prices = xs;
            priced = ep;
            recorded = ap (λ (u : NetPrice). u.legs) (sym same);
            allowed = (ms, free, ok);
            fair = all_fair ms t.price xs ep;
          }

  pub fair_pair : (z : Step) (x y : Option Order) → best_order s true os ≡ x → best_order s false os ≡ y → pair_of ms x y ≡ Some z → StepFair legs s os b z
  fair_pair z None y ex ey e = absurd (none-some z e)
  fair_pair z (Some x) None ex ey e = absurd (none-some z e)
  fair_pair z (Some x) (Some y) ex ey e = go (pair_price ms (limit_of x) (limit_of y) (ltb x.number y.number)) (found ms (limit_of x) (limit_of y) (ltb x.number y.number)) e
    where
      go : (o : Option NetPrice) → Found ms (limit_of x) (limit_of y) o → option_map (pair x y) o ≡ Some z → StepFair legs s os b z
      go None f e = absurd (none-some z e)
      go (Some t) f e =
          let mx = best_mine s true os x ex in
          let my = best_mine s false os y ey in
          let some_x : 1 ≤ x.quantity = all-has (λ o. 1 ≤ o.quantity) os x ready.some mx.rests in
          let some_y : 1 ≤ y.quantity = all-has (λ o. 1 ≤ o.quantity) os y ready.some my.rests in
          let P : Step → Type 0 = StepFair legs s os b in
          subst P (some_same (pair x y t) z e) (mx, my, f.0.1, f.0.0, omega arith, paired x y t f.1 f.2)

  pub fair_leg : (z : Step) (buy : Bool) (x : Option Order) → best_order s buy os ≡ x → leg_of ms x ≡ Some z → StepFair legs s os b z
  fair_leg z buy None ex e = absurd (none-some z e)
  fair_leg z buy (Some x) ex e = let mine = best_mine s buy os x ex in go (legged_quantity ms x.buy (limit_of x) x.quantity) (reached ms x.buy (limit_of x) x.quantity) (record { rests = mine.rests; strategy = mine.strategy; side = refl }) e
    where
      go : (q : ℕ) → (1 ≤ q → Reached ms x.buy (limit_of x) x.quantity q) → Mine s x.buy os x → leg_for ms x q ≡ Some z → StepFair legs s os b z
      go q reach mine e =
          let l = legged_tells ms x q z e in
          let r = reach l.0 in
          let P : Step → Type 0 = StepFair legs s os b in
          subst P l.1 (mine, r.within, l.0, r.fits.0, record { markets = ms; free = free; price = refl; recorded = refl; sizes = r.fits.1 })

  pub fair_with : (z : Step) → step_with ms (best_order s true os) (best_order s false os) ≡ Some z → StepFair legs s os b z
  fair_with z e =
      elim (or_some (pair_of ms (best_order s true os) (best_order s false os)) _ z e) [
        | inl p ↦ fair_pair z (best_order s true os) (best_order s false os) refl refl p
        | inr l ↦ elim (older_some (leg_of ms (best_order s true os)) (leg_of ms (best_order s false os)) z l) [
          | inl x ↦ fair_leg z true (best_order s true os) refl x
          | inr y ↦ fair_leg z false (best_order s false os) refl y
        ]
      ]

pub fair_step : (legs : List Leg) (s : ℕ) (os : List Order) (b : Lots) (y : Step) → Ready os → step_of legs s (trading os b) ≡ Some y → StepFair legs s os b y
unfolding step_of
fair_step legs s os b y ready e = go (markets_of b legs) refl e
  where
    go : (o : Option (List LegMarket)) → markets_of b legs ≡ o → step_on o (best_order s true os) (best_order s false os) ≡ Some y → StepFair legs s os b y
    go None eo e = absurd (none-some y e)
    go (Some ms) eo e = fair_with legs s os b ready ms eo y e
