use Rattle.std.proofs.Common.{◌≡◌, true, subst, sym, ap, ◌∙◌, rules, tests}
use Rattle.std.proofs.lemmas.Iterator.{YieldsList-from_slice, YieldsList-from_map}
use Rattle.std.proofs.lemmas.Iterator.Consumers.{YieldsList-at}
use Rattle.std.proofs.lemmas.Iterator.Adapters.{serves_from_places}
use Rattle.pricing.specs.Legs.{part_taken}
use Rattle.pricing.specs.Legging.{net_taken}
use Rattle.pricing.specs.Sound.{leg_sound}
use Rattle.pricing.proofs.Soundness.{sound_at}
use Rattle.pricing.proofs.Sums.{sums_fit, sum_is}
use Rattle.pricing.proofs.strategy_market.StrategyMarket.net_taken.Goals as goal

pub sum-requires-clause-can : goal.sum-requires-clause-can
sum-requires-clause-can c = (tt, serves_from_places (YieldsList-at c.map.ensures.source (YieldsList-from_slice c.legs.result.now cc)) (λ x q r. search (rules, tests)) (λ x k lt at. let sound = sound_at c.legs.result.now k x.now c.legs.ensures.sound lt in λ _ _ _ _ _. subst (λ m. leg_sound m ≡ true) (sym at) sound))

pub sum-requires-clause-fits : goal.sum-requires-clause-fits
sum-requires-clause-fits c = sums_fit c.args.buy c.legs.result.now c.legs.ensures.sound (YieldsList-from_map _ (part_taken c.args.buy) (YieldsList-at c.map.ensures.source (YieldsList-from_slice c.legs.result.now cc)) c.map.ensures.closure (λ x r q k. search (rules, tests)))

pub returns : goal.returns
returns c =
    let sum = sum_is c.args.buy c.legs.result.now c.legs.ensures.sound c.sum.result c.sum.ensures.ran (YieldsList-from_map _ (part_taken c.args.buy) (YieldsList-at c.map.ensures.source (YieldsList-from_slice c.legs.result.now cc)) c.map.ensures.closure (λ x r q k. search (rules, tests))) in
    let is = sum.0 ∙ ap (λ ms. net_taken ms c.args.buy) c.legs.ensures.value in
    record { value = search (rules, is); reach = search (rules, sum) }
