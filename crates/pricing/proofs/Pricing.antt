-- A loop that prices one leg after another: what holds once i legs are priced, its step and its end.
use Rattle.std.proofs.Common.{◌≡◌, ℕ, ◌+◌, ◌-◌, ◌*◌, ◌<◌, ◌≤◌, Bool, true, false, not, ◌||◌, List, [], ◌++◌, length, take, drop, set, replicate, sym, refl, ap, ◌∙◌, append-nil, arith, length-set}
use Rattle.std.proofs.lemmas.List.{drop-set-lt, drop-replicate, drop-drop, drop_all, take-append-drop}
use Rattle.pricing.specs.declared.market.LegMarket.{LegMarket}
use Rattle.pricing.specs.Legs.{in_places}
use Rattle.pricing.specs.Prices.{cents, price_at, rest_after, by_leg, at_customer, between, matched, improved, customer_rule}
use Rattle.pricing.proofs.Split.{leg_at, rest_more, filled_more, matched_more, improved_more}

pub record Priced (ms : List LegMarket) (i start rest : ℕ) (prices : List ℕ) (met better : Bool) : Type 0 where
  pub remains : rest_after (drop i ms) rest ≡ rest_after ms start
  pub front : take i prices ++ by_leg (drop i ms) rest ≡ by_leg ms start
  pub back : drop i prices ≡ replicate (4 - i) 0
  pub four : length prices ≡ 4
  pub less : rest ≤ start
  pub met_is : (met || matched (drop i ms) (by_leg (drop i ms) rest)) ≡ matched ms (by_leg ms start)
  pub better_is : (better || improved (drop i ms) (by_leg (drop i ms) rest)) ≡ improved ms (by_leg ms start)

or_step : (a x m₀ m₁ : Bool) → m₀ ≡ (x || m₁) → ((a || x) || m₁) ≡ (a || m₀)
or_step true x m₀ m₁ q = refl
or_step false x m₀ m₁ q = sym q

module _ (ms : List LegMarket) (i : ℕ) (h : i < length ms) where
  abbrev m : LegMarket
  m = leg_at ms i

  pub priced_more : (start rest : ℕ) (prices : List ℕ) (met better : Bool) → Priced ms i start rest prices met better → i < 4 → (k x : ℕ) (c b : Bool) → k ≡ cents m rest → x ≡ price_at m k → c ≡ at_customer m x → b ≡ between m x → Priced ms (i + 1) start (rest - m.ratio * k) (set prices i x) (met || c) (better || b)
  priced_more start rest prices met better p l k x c b ek ex ec eb =
      let y : ℕ = price_at m (cents m rest) in
      let l' : i < length prices = omega (arith, p.four) in
      let one_less : 4 - i - 1 ≡ 4 - (i + 1) = omega arith in
      rw (ec, eb, ex, ek)
      (record {
        remains = sym (rest_more ms i h rest) ∙ p.remains;
        front = filled_more ms i h prices rest l' ∙ p.front;
        back = drop-set-lt (i + 1) prices i y (omega arith) ∙ sym (drop-drop 1 i prices) ∙ ap (drop 1) p.back ∙ drop-replicate 1 (4 - i) 0 ∙ ap (λ n. replicate n 0) one_less;
        four = length-set prices i y ∙ p.four;
        less = omega (arith, p.less);
        met_is = or_step met (at_customer m y) _ _ (matched_more ms i h rest) ∙ p.met_is;
        better_is = or_step better (between m y) _ _ (improved_more ms i h rest) ∙ p.better_is;
      })

pub priced_end : (ms : List LegMarket) (i start rest : ℕ) (prices : List ℕ) (met better : Bool) → Priced ms i start rest prices met better → i ≡ length ms → (rest ≡ rest_after ms start) × (prices ≡ in_places ms (by_leg ms start)) × ((better || not met) ≡ customer_rule ms (by_leg ms start))
priced_end ms i start rest prices met better p e =
    let none : drop i ms ≡ [] = drop_all i ms (omega (arith, e)) in
    let whole : take i prices ≡ by_leg ms start = sym (append-nil (take i prices)) ∙ (rw none at p.front) in
    let met_all : (met || false) ≡ matched ms (by_leg ms start) = rw none at p.met_is in
    let better_all : (better || false) ≡ improved ms (by_leg ms start) = rw none at p.better_is in
    (rw none at p.remains, sym (take-append-drop i prices) ∙ rw (whole, p.back, e), rw (← met_all, ← better_all) (go met better))
  where
    go : (a b : Bool) → (b || not a) ≡ ((b || false) || not (a || false))
    go true true = refl
    go true false = refl
    go false true = refl
    go false false = refl
