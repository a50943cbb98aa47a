-- A strategy has no step exactly when nothing is left to do.
use Rattle.std.proofs.Common.{◌≡◌, ℕ, ◌≤◌, Bool, true, false, cond, ltb, leb, List, ℤ, ◌≤ℤ◌, Some, None, Option, sym, refl, ap, subst, arith}
use Rattle.std.specs.Option.{option_or, option_map}
use Rattle.std.proofs.ByRecursion.{all-has}
use Rattle.std.proofs.lemmas.Int.{ints}
use Rattle.std.proofs.lemmas.Bool.{leb-true, le-leb}
use Rattle.std.proofs.lemmas.Option.{none-some}
use Rattle.simple.specs.Lots.{Lots}
use Rattle.strategies.specs.declared.leg.Leg.{Leg}
use Rattle.pricing.specs.declared.market.LegMarket.{LegMarket}
use Rattle.pricing.specs.declared.market.NetPrice.{NetPrice}
use Rattle.pricing.specs.Pair.{pair_price}
use Rattle.pricing.specs.Legging.{most, reaches, legged_quantity, taken_at}
use Rattle.pricing.specs.Trades.{NoneWithin}
use Rattle.pricing.specs.Reading.{markets_of}
use Rattle.pricing.proofs.Trades.{found, none_found}
use Rattle.pricing.proofs.Taking.{most_some, eased}
use Rattle.rules.specs.declared.order.Order.{Order}
use Rattle.rules.specs.Orders.{limit_of, best_order}
use Rattle.rules.specs.Steps.{Step, pair, legged, pair_of, leg_for, leg_of, number_in, older, step_with, step_on, trading, step_of}
use Rattle.rules.proofs.Ready.{Ready, Mine, Pairless, Legless, Still}
use Rattle.rules.proofs.Bests.{best_mine, bettered, none_mine}

-- the parts of a step that is none
pub or_none : (x y : Option Step) → option_or x y ≡ None → (x ≡ None) × (y ≡ None)
or_none None y e = (refl, e)
or_none (Some x) y e = absurd (none-some x (sym e))

pub older_none : (x y : Option Step) → older x y ≡ None → (x ≡ None) × (y ≡ None)
older_none None y e = (refl, e)
older_none (Some x) None e = absurd (none-some x (sym e))
older_none (Some x) (Some y) e = go (ltb (number_in x) (number_in y)) e
  where
    go : (t : Bool) → cond t (Some x) (Some y) ≡ None → (Some x ≡ None) × (Some y ≡ None)
    go true e = absurd (none-some x (sym e))
    go false e = absurd (none-some y (sym e))

pub unpaired : (x y : Order) (o : Option NetPrice) → option_map (pair x y) o ≡ None → o ≡ None
unpaired x y None e = refl
unpaired x y (Some t) e = absurd (none-some (pair x y t) (sym e))

pub unlegged : (ms : List LegMarket) (o : Order) (q : ℕ) → leg_for ms o q ≡ None → 1 ≤ q → ⊥
unlegged ms o q e h = let t : leb 1 q ≡ true = le-leb 1 q h in absurd (none-some (legged o q (taken_at ms o.buy)) (sym (rw t at e)))

pub not_legged : (ms : List LegMarket) (o : Order) (q : ℕ) → (1 ≤ q → ⊥) → leg_for ms o q ≡ None
not_legged ms o q h = go (leb 1 q) refl
  where
    go : (t : Bool) → leb 1 q ≡ t → cond t (Some (legged o q (taken_at ms o.buy))) None ≡ None
    go false e = refl
    go true e = absurd (h (leb-true 1 q e))

-- where some can be legged of one quantity, some can be of any
pub legged_some : (ms : List LegMarket) (buy : Bool) (limit : ℤ) (p q : ℕ) → 1 ≤ legged_quantity ms buy limit p → 1 ≤ q → 1 ≤ legged_quantity ms buy limit q
legged_some ms buy limit p q h k = go (reaches ms buy limit) h
  where
    go : (t : Bool) → 1 ≤ cond t (most ms buy p) 0 → 1 ≤ cond t (most ms buy q) 0
    go true h = most_some ms buy p q h k
    go false h = h

module _ (ms : List LegMarket) (s : ℕ) (os : List Order) where
  pub pairless : Ready os → pair_of ms (best_order s true os) (best_order s false os) ≡ None → Pairless ms s os
  pairless ready none x y mx my p w ok = go (best_order s true os) (best_order s false os) refl refl none
    where
      go : (b c : Option Order) → best_order s true os ≡ b → best_order s false os ≡ c → pair_of ms b c ≡ None → ⊥
      go None c eb ec e = none_mine s true os x eb mx
      go (Some b) None eb ec e = none_mine s false os y ec my
      go (Some b) (Some c) eb ec e =
          let older = ltb b.number c.number in
          let none : pair_price ms (limit_of b) (limit_of c) older ≡ None = unpaired b c (pair_price ms (limit_of b) (limit_of c) older) e in
          let within : NoneWithin ms (limit_of b) (limit_of c) = rw none at (found ms (limit_of b) (limit_of c) older) in
          let bx : limit_of x ≤ℤ limit_of b = bettered s true os b x ready eb mx in
          let cy : limit_of c ≤ℤ limit_of y = bettered s false os c y ready ec my in
          within p (omega (arith, ints, cy, w.0), omega (arith, ints, bx, w.1)) ok

  pub legless : Ready os → (buy : Bool) → leg_of ms (best_order s buy os) ≡ None → (x : Order) → Mine s buy os x → 1 ≤ legged_quantity ms buy (limit_of x) x.quantity → ⊥
  legless ready buy none x mx h = go (best_order s buy os) refl none
    where
      go : (b : Option Order) → best_order s buy os ≡ b → leg_of ms b ≡ None → ⊥
      go None eb e = none_mine s buy os x eb mx
      go (Some b) eb e =
          let mine = best_mine s buy os b eb in
          let some : 1 ≤ b.quantity = all-has (λ o. 1 ≤ o.quantity) os b ready.some mine.rests in
          let eases = eased ms buy (limit_of x) x.quantity (limit_of b) (bettered s buy os b x ready eb mx) in
          let can : 1 ≤ legged_quantity ms buy (limit_of b) b.quantity = legged_some ms buy (limit_of b) x.quantity b.quantity (omega arith) some in
          let P : Bool → Type 0 = λ side. 1 ≤ legged_quantity ms side (limit_of b) b.quantity in
          unlegged ms b (legged_quantity ms b.buy (limit_of b) b.quantity) e (subst P (sym mine.side) can)

  pub no_pair : (b c : Option Order) → best_order s true os ≡ b → best_order s false os ≡ c → Pairless ms s os → pair_of ms b c ≡ None
  no_pair None c eb ec none = refl
  no_pair (Some b) None eb ec none = refl
  no_pair (Some b) (Some c) eb ec none =
      ap (option_map (pair b c)) (none_found ms (limit_of b) (limit_of c) (ltb b.number c.number) (none b c (best_mine s true os b eb) (best_mine s false os c ec)))

  pub no_leg : (buy : Bool) (b : Option Order) → best_order s buy os ≡ b → Legless ms s os → leg_of ms b ≡ None
  no_leg buy None eb none = refl
  no_leg buy (Some b) eb none =
      let mine = best_mine s buy os b eb in
      not_legged ms b (legged_quantity ms b.buy (limit_of b) b.quantity) (none b.buy b (record { rests = mine.rests; strategy = mine.strategy; side = refl }))

pub no_step : (legs : List Leg) (s : ℕ) (os : List Order) (b : Lots) → Ready os → step_of legs s (trading os b) ≡ None → Still legs s os b
unfolding step_of
no_step legs s os b ready e ms free =
    let none : step_with ms (best_order s true os) (best_order s false os) ≡ None = rw free at e in
    let parts = or_none (pair_of ms (best_order s true os) (best_order s false os)) _ none in
    let sides = older_none (leg_of ms (best_order s true os)) (leg_of ms (best_order s false os)) parts.1 in
    (pairless ms s os ready parts.0, λ buy. elim buy as (λ v. (x : Order) → Mine s v os x → 1 ≤ legged_quantity ms v (limit_of x) x.quantity → ⊥) [ true ↦ legless ms s os ready true sides.0 | false ↦ legless ms s os ready false sides.1 ])

pub still_no_step : (legs : List Leg) (s : ℕ) (os : List Order) (b : Lots) → Ready os → Still legs s os b → step_of legs s (trading os b) ≡ None
unfolding step_of
still_no_step legs s os b ready still = go (markets_of b legs) refl
  where
    go : (o : Option (List LegMarket)) → markets_of b legs ≡ o → step_on o (best_order s true os) (best_order s false os) ≡ None
    go None e = refl
    go (Some ms) e =
        let none = still ms e in
        let p = no_pair ms s os (best_order s true os) (best_order s false os) refl refl none.0 in
        let x = no_leg ms s os true (best_order s true os) refl none.1 in
        let y = no_leg ms s os false (best_order s false os) refl none.1 in
        rw (p, x, y)
