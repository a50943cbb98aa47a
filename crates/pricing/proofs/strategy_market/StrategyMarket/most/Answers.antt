use Rattle.std.proofs.Common.{rules, tests, ◌≤◌, min, get_or, subst, sym, ap, ◌∙◌}
use Rattle.std.proofs.lemmas.List.Folds.{fold-map}
use Rattle.std.proofs.lemmas.Iterator.{YieldsList-from_slice, YieldsList-from_map}
use Rattle.std.proofs.lemmas.Iterator.Consumers.{YieldsList-at, fold_from_yields_List}
use Rattle.std.proofs.lemmas.Iterator.Adapters.{serves_from_places}
use Rattle.pricing.specs.Legging.{available, most}
use Rattle.pricing.proofs.Soundness.{leg_told, sound_at}
use Rattle.pricing.proofs.strategy_market.StrategyMarket.most.Goals as goal

pub fold-requires-clause-can : goal.fold-requires-clause-can
fold-requires-clause-can c = (tt, serves_from_places (YieldsList-at c.map.ensures.source (YieldsList-from_slice c.legs.result.now cc)) (λ x q r. search (rules, tests)) (λ x k lt at. let some = (leg_told (get_or c.legs.result.now k x.now) (sound_at c.legs.result.now k x.now c.legs.ensures.sound lt)).some in λ _ _ _ _ _. subst (λ m. 1 ≤ m.ratio) (sym at) some))

pub returns : goal.returns
unfolding most
returns c =
    let legs = c.legs.result.now in
    fold_from_yields_List _ min _ c.fold.result c.fold.ensures.ran (YieldsList-from_map _ (available c.args.buy) (YieldsList-at c.map.ensures.source (YieldsList-from_slice legs cc)) c.map.ensures.closure (λ x r q k. search (rules, tests))) (λ a x b q k. search (rules, tests))
    ∙ fold-map min (available c.args.buy) c.args.quantity legs
    ∙ ap (λ ms. most ms c.args.buy c.args.quantity) c.legs.ensures.value
