-- What the markets of a free strategy mean.
use Rattle.std.specs.Prelude.{List, take}
use Rattle.pricing.specs.declared.market.LegMarket.{LegMarket}
use Rattle.pricing.specs.declared.strategy_market.StrategyMarket.{StrategyMarket}

abbrev pub legs_of : StrategyMarket → List LegMarket
legs_of s = take s.count s.legs
