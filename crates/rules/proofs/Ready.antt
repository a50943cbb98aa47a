-- What is known of the orders of an engine, of a step and of a strategy without one.
use Rattle.std.proofs.Common.{◌≡◌, ℕ, ◌≤◌, min, Bool, true, false, List, ℤ, ◌≤ℤ◌, Some, MatchBool}
use Rattle.std.specs.List.{ContainsAt as Has, AllByRecursion}
use Rattle.ranked.specs.Ranking.{Sorted, Distinct}
use Rattle.simple.specs.Limits.{last_series}
use Rattle.simple.specs.Lots.{Lots}
use Rattle.strategies.specs.declared.leg.Leg.{Leg}
use Rattle.strategies.specs.Lawful.{Rising, RatioFits}
use Rattle.pricing.specs.declared.market.LegMarket.{LegMarket}
use Rattle.pricing.specs.Prices.{admissible}
use Rattle.pricing.specs.Legging.{legged_quantity}
use Rattle.pricing.specs.Trades.{Within}
use Rattle.pricing.specs.Reading.{markets_of}
use Rattle.rules.specs.declared.order.Order.{Order}
use Rattle.rules.specs.Orders.{order_ahead, order_number, limit_of}
use Rattle.rules.specs.Steps.{Step, pair, legged, execution_of}
use Rattle.rules.specs.Laws.{Paired, Legged}

-- in rank, under numbers of their own from 1 on, each with something left
pub record Ready (os : List Order) : Type 0 where
  pub sorted : Sorted order_ahead os
  pub distinct : Distinct order_number os
  pub some : AllByRecursion (λ o. 1 ≤ o.quantity) os
  pub numbered : AllByRecursion (λ o. 1 ≤ o.number) os

-- what the legs of a defined strategy are, by the tests alone
pub record Steady (legs : List Leg) : Type 0 where
  pub listed : AllByRecursion (λ l. l.series ≤ last_series) legs
  pub rising : Rising legs
  pub ratios : AllByRecursion RatioFits legs

-- an order of the strategy on that side, among those at rest
pub record Mine (s : ℕ) (buy : Bool) (os : List Order) (o : Order) : Type 0 where
  pub rests : Has os o
  pub strategy : o.strategy ≡ s
  pub side : o.buy ≡ buy

-- no buy and sell of the strategy have an admissible price within both limits
abbrev pub Pairless : List LegMarket → ℕ → List Order → Type 0
Pairless ms s os = (x y : Order) → Mine s true os x → Mine s false os y → (p : ℤ) → Within (limit_of x) (limit_of y) p → admissible ms p ≡ true → ⊥

-- no order of the strategy can be legged
abbrev pub Legless : List LegMarket → ℕ → List Order → Type 0
Legless ms s os = (buy : Bool) (x : Order) → Mine s buy os x → 1 ≤ legged_quantity ms buy (limit_of x) x.quantity → ⊥

-- nothing is left to do for the strategy
abbrev pub Still : List Leg → ℕ → List Order → Lots → Type 0
Still legs s os b = (ms : List LegMarket) → markets_of b legs ≡ Some ms → Pairless ms s os × Legless ms s os

-- a step is of orders of the strategy, within their limits, at prices of the lots before it
abbrev pub StepFair : List Leg → ℕ → List Order → Lots → Step → Type 0
StepFair legs s os b (pair x y t) =
    Mine s true os x
    × Mine s false os y
    × (t.price ≤ℤ limit_of x)
    × (limit_of y ≤ℤ t.price)
    × (1 ≤ min x.quantity y.quantity)
    × Paired legs b (execution_of s (pair x y t))
StepFair legs s os b (legged o q t) =
    Mine s o.buy os o
    × MatchBool o.buy (t.price ≤ℤ limit_of o) (limit_of o ≤ℤ t.price)
    × (1 ≤ q)
    × (q ≤ o.quantity)
    × Legged legs b o.buy (execution_of s (legged o q t))
