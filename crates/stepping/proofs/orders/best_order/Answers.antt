-- `best_order`: the first that is found.
use Rattle.std.proofs.Common.{◌∙◌, rules, arith}
use Rattle.std.proofs.lemmas.Grind.{common_steps}
use Rattle.std.proofs.lemmas.Iterator.{YieldsList-from_slice}
use Rattle.std.proofs.lemmas.Iterator.Search.{find_from_yields_List}
use Rattle.ranked.specs.Held.{items}
use Rattle.rules.specs.Orders.{is_of}
use Rattle.stepping.proofs.Bests.{best_found}
use Rattle.stepping.proofs.orders.best_order.Goals as goal

-- that the list read is the orders' is searched for, not cited: an edit of it is refused by its value
pub returns : goal.returns
returns c =
    let s = c.args.strategy in
    let buy = c.args.buy in
    let os = items c.args.orders.now in
    c.copied.ensures
    ∙ find_from_yields_List (is_of s buy) _ _ c.find.result c.find.ensures.ran (YieldsList-from_slice os (grind (arith, common_steps))) (λ x b q k. search rules)
    ∙ best_found s buy os
