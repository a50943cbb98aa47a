use Rattle.std.proofs.Common.{◌≡◌, ◌-◌, ◌++◌, map, take, replicate}
use Rattle.pricing.specs.Legging.{price_taken}
use Rattle.pricing.proofs.strategy_market.StrategyMarket.prices_taken.Given as goal

abbrev pub invariant-loop-i : goal.invariant-loop-i
invariant-loop-i l = l.prices ≡ map (price_taken l.buy) (take l.i l.legs) ++ replicate (4 - l.i) 0
