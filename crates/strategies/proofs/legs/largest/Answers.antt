-- `largest`: the largest of what the chain gives.
use Rattle.std.proofs.Common.{rules, tests, sym, ap, ◌∙◌}
use Rattle.std.specs.Option.{unwrap_or}
use Rattle.std.proofs.lemmas.Iterator.{YieldsList-from_slice, YieldsList-from_map}
use Rattle.std.proofs.lemmas.Iterator.Consumers.{YieldsList-at, max_from_yields_List}
use Rattle.std.proofs.lemmas.Iterator.Adapters.{option_map_id}
use Rattle.strategies.proofs.Walks.{largest_found}
use Rattle.strategies.proofs.legs.largest.Goals as goal

pub returns : goal.returns
returns c =
    let legs = c.args.legs.now in
    let most = sym (option_map_id _) ∙ max_from_yields_List _ c.max.result c.max.ensures.ran (YieldsList-from_map _ (λ l. l.ratio) (YieldsList-at c.map.ensures.source (YieldsList-from_slice legs cc)) c.map.ensures.closure (λ x r q k. search (rules, tests))) in
    c.unwrap_or.ensures ∙ ap (λ o. unwrap_or o 0) most ∙ largest_found legs
