-- The first of the prices that are tried, and when one is admissible.
use Rattle.std.proofs.Common.{◌≡◌, ℕ, zero, suc, ◌+◌, ◌-◌, ◌<◌, Bool, true, false, ◌&&◌, eqb, List, ℤ, ◌-ℤ◌, nat_abs, ◌≤ℤ◌, ◌<ℤ◌, Some, None, Option, sym, refl, ◌∙◌, ⊎_elim, suc-add, zero-add, add-one, arith}
use lib.Signed.{le_z}
use Rattle.std.proofs.lemmas.Int.{ints}
use Rattle.std.proofs.lemmas.Bool.{cases_eq}
use Rattle.std.proofs.lemmas.Option.{none-some}
use Rattle.pricing.specs.declared.market.LegMarket.{LegMarket}
use Rattle.pricing.specs.declared.market.NetPrice.{NetPrice}
use Rattle.pricing.specs.Legs.{free, in_places, net_bid, net_offer}
use Rattle.pricing.specs.Prices.{rest_after, by_leg, customer_rule, rest_at, allowed, leg_prices}
use Rattle.pricing.specs.Pair.{lowest, highest, tries, nth, priced, first, pair_price}

-- the first of n answers
module _ {X : Type 0} (at : ℕ → Option X) where
  pub first_missed : (k : ℕ) → first at k ≡ None → at k ≡ None → first at (k + 1) ≡ None
  first_missed k e f = rw (add-one, e) f

  first_hit : (x : X) (k : ℕ) → first at k ≡ None → at k ≡ Some x → first at (suc k) ≡ Some x
  first_hit x k e t = rw e t

  first_stays : (x : X) (k j : ℕ) → first at k ≡ Some x → first at (j + k) ≡ Some x
  first_stays x k zero e = rw zero-add e
  first_stays x k (suc j) e = rw (suc-add, first_stays x k j e)

  pub first_found : (x : X) (k n : ℕ) → k < n → first at k ≡ None → at k ≡ Some x → first at n ≡ Some x
  first_found x k n h e t =
      let s : n - suc k + suc k ≡ n = omega arith in
      rw s at (first_stays x (suc k) (n - suc k) (first_hit x k e t))

  pub first_none_all : (n : ℕ) → first at n ≡ None → (j : ℕ) → j < n → at j ≡ None
  first_none_all zero e j h = absurd (omega arith)
  first_none_all (suc n) e j h = go (first at n) refl (first_none_all n)
    where
      go : (o : Option X) → first at n ≡ o → (first at n ≡ None → (j : ℕ) → j < n → at j ≡ None) → at j ≡ None
      go (Some q) eo ih = absurd (none-some q (sym (rw eo at e)))
      go None eo ih = ⊎_elim (λ s. rw s (rw eo at e)) (λ ne. ih eo j (omega (arith, ne))) (cases_eq j n)

  pub first_some : (n : ℕ) (x : X) → first at n ≡ Some x → (k : ℕ) × (k < n) × (at k ≡ Some x) × ((j : ℕ) → j < k → at j ≡ None)
  first_some zero x e = absurd (none-some x e)
  first_some (suc n) x e = go (first at n) refl (first_some n x)
    where
      go : (o : Option X) → first at n ≡ o → (first at n ≡ Some x → (k : ℕ) × (k < n) × (at k ≡ Some x) × ((j : ℕ) → j < k → at j ≡ None)) → (k : ℕ) × (k < suc n) × (at k ≡ Some x) × ((j : ℕ) → j < k → at j ≡ None)
      go (Some q) eo ih = let r = ih (eo ∙ (rw eo at e)) in (r.0, omega (arith, r.1), r.2, r.3)
      go None eo ih = (n, omega arith, rw eo at e, first_none_all n eo)

pub le_true : (a b : ℤ) → a ≤ℤ b → le_z a b ≡ true
le_true a b h = grind (arith, ints)

-- a price in the net market of a free strategy: what its legs decide
module _ (ms : List LegMarket) (p : ℤ) (rest left : ℕ) (rule : Bool) (xs : List ℕ) (unlocked : free ms ≡ true) (l : net_bid ms ≤ℤ p) (h : p ≤ℤ net_offer ms) (r : rest ≡ rest_at ms p) (el : left ≡ rest_after ms rest) (er : rule ≡ customer_rule ms (by_leg ms rest)) where
  decided : allowed ms p ≡ (eqb left 0 && rule)
  decided =
      let a : le_z (net_bid ms) p ≡ true = le_true (net_bid ms) p l in
      let b : le_z p (net_offer ms) ≡ true = le_true p (net_offer ms) h in
      rw (unlocked, a, b, ← r, ← el, ← er)

  pub refused_here : (eqb left 0 && rule) ≡ false → priced ms p ≡ None
  unfolding leg_prices
  refused_here e = rw (decided, e)

  pub priced_here : (eqb left 0 && rule) ≡ true → xs ≡ in_places ms (by_leg ms rest) → priced ms p ≡ Some (record { price = p; legs = xs })
  unfolding leg_prices
  priced_here e x = rw (decided, e, ← r, ← x)

-- a pair's search, with its range as the code has it
module _ (ms : List LegMarket) (buy sell : ℤ) (older : Bool) (low high : ℤ) (l : low ≡ lowest ms sell) (h : high ≡ highest ms buy) where
  pub hit : (k n : ℕ) (x : NetPrice) → low ≤ℤ high → n ≡ nat_abs (high -ℤ low) → k < n + 1 → first (λ k. priced ms (nth older low high k)) k ≡ None → priced ms (nth older low high k) ≡ Some x → Some x ≡ pair_price ms buy sell older
  unfolding pair_price
  hit k n x le e b none some =
      let t : le_z low high ≡ true = le_true low high le in
      let many : tries low high ≡ suc (nat_abs (high -ℤ low)) = rw t in
      let k< : k < tries low high = omega (arith, many, e) in
      let found = first_found (λ k. priced ms (nth older low high k)) x k (tries low high) k< none some in
      rw (← l, ← h, found)

  pub missed_all : (n : ℕ) → low ≤ℤ high → n ≡ nat_abs (high -ℤ low) → first (λ k. priced ms (nth older low high k)) (n + 1) ≡ None → None ≡ pair_price ms buy sell older
  unfolding pair_price
  missed_all n le e none =
      let t : le_z low high ≡ true = le_true low high le in
      let many : tries low high ≡ n + 1 = rw (t, ← e, add-one) in
      rw (← l, ← h, many, none)

  pub crossed : high <ℤ low → None ≡ pair_price ms buy sell older
  unfolding pair_price
  crossed c =
      let t : le_z low high ≡ false = grind (arith, ints) in
      rw (← l, ← h, t)
