use Rattle.std.proofs.Common.{ap, ◌∙◌, arith}
use Rattle.pricing.specs.Legging.{prices_taken}
use Rattle.pricing.proofs.Soundness.{few}
use Rattle.pricing.proofs.Taking.{prices_more, prices_all}
use Rattle.pricing.proofs.strategy_market.StrategyMarket.prices_taken.Goals as goal

pub bounds-prices-i : goal.bounds-prices-i
bounds-prices-i c = let short = few c.legs-legs.result.now c.legs-legs.ensures.sound in omega arith

pub loop-i-preserved : goal.loop-i-preserved
loop-i-preserved c = prices_more c.legs-legs.result.now c.args.buy c.loop-i.i c.loop-i.prices c.taken.result.price c.loop-i-test.true (few c.legs-legs.result.now c.legs-legs.ensures.sound) c.loop-i.invariant c.taken.ensures.price

pub returns : goal.returns
returns c = prices_all c.legs-legs.result.now c.args.buy c.loop-i.i c.loop-i.prices c.loop-i-test.false c.loop-i.auto.i-end c.loop-i.invariant ∙ ap (λ ms. prices_taken ms c.args.buy) c.legs-legs.ensures.value
