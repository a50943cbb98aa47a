-- One leg after another: the definitions over the legs from a place on.
use Rattle.std.proofs.Common.{◌≡◌, ℕ, ◌+◌, ◌*◌, ◌/◌, ◌<◌, ◌≤◌, false, ◌||◌, List, [], ◌∷◌, ◌++◌, length, get_or, take, drop, set, ap, append_assoc, le_trans, mul-le-mul_left, arith}
use native.Mathlib.Nat.{mul-div-le}
use Rattle.std.proofs.lemmas.List.{drop_more, take_more_set}
use Rattle.pricing.specs.declared.market.LegMarket.{LegMarket}
use Rattle.pricing.specs.Prices.{cents, price_at, left, rest_after, by_leg, at_customer, between, matched, improved}

pub cents_fit : (m : LegMarket) (rest : ℕ) → m.ratio * cents m rest ≤ rest
cents_fit m rest = let h : cents m rest ≤ rest / m.ratio = omega arith in le_trans (mul-le-mul_left m.ratio h) (mul-div-le rest m.ratio)

-- the leg at a place
abbrev pub leg_at : List LegMarket → ℕ → LegMarket
leg_at ms i = get_or ms i (record { bought = false; ratio = 0; bid = record { price = 0; size = 0; customer = 0 }; offer = record { price = 0; size = 0; customer = 0 } })

module _ (ms : List LegMarket) (i : ℕ) (h : i < length ms) where
  abbrev m : LegMarket
  m = leg_at ms i

  pub leg_split : drop i ms ≡ m ∷ drop (i + 1) ms
  leg_split = drop_more ms i _ h

  pub rest_more : (rest : ℕ) → rest_after (drop i ms) rest ≡ rest_after (drop (i + 1) ms) (left m rest)
  rest_more rest = ap (λ (ys : List LegMarket). rest_after ys rest) leg_split

  prices_more : (rest : ℕ) → by_leg (drop i ms) rest ≡ price_at m (cents m rest) ∷ by_leg (drop (i + 1) ms) (left m rest)
  prices_more rest = ap (λ (ys : List LegMarket). by_leg ys rest) leg_split

  pub filled_more : (prices : List ℕ) (rest : ℕ) → i < length prices → take (i + 1) (set prices i (price_at m (cents m rest))) ++ by_leg (drop (i + 1) ms) (left m rest) ≡ take i prices ++ by_leg (drop i ms) rest
  filled_more prices rest l =
      let x : ℕ = price_at m (cents m rest) in
      rw (take_more_set prices i x l, append_assoc (take i prices) (x ∷ []) (by_leg (drop (i + 1) ms) (left m rest)), prices_more rest)

  pub matched_more : (rest : ℕ) → matched (drop i ms) (by_leg (drop i ms) rest) ≡ (at_customer m (price_at m (cents m rest)) || matched (drop (i + 1) ms) (by_leg (drop (i + 1) ms) (left m rest)))
  matched_more rest = ap (λ (ys : List LegMarket). matched ys (by_leg ys rest)) leg_split

  pub improved_more : (rest : ℕ) → improved (drop i ms) (by_leg (drop i ms) rest) ≡ (between m (price_at m (cents m rest)) || improved (drop (i + 1) ms) (by_leg (drop (i + 1) ms) (left m rest)))
  improved_more rest = ap (λ (ys : List LegMarket). improved ys (by_leg ys rest)) leg_split
