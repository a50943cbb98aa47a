-- `place_with`: the first entry with the number.
use Rattle.std.proofs.Common.{eqb, ◌∙◌, rules}
use Rattle.std.proofs.lemmas.Iterator.{YieldsList-from_slice}
use Rattle.std.proofs.lemmas.Iterator.Search.{position_from_yields_List}
use Rattle.std.proofs.lemmas.Iterator.Adapters.{position_from-zero}
use Rattle.ranked.proofs.Finds.{place_found_with, place_tells}
use Rattle.ranked.proofs.slots.place_with.Goals as goal

pub returns : goal.returns
returns g c =
    let serial = g.E.Ranked.serial in
    let n = c.args.number in
    let xs = c.args.entries.now in
    let is =
    position_from_yields_List (λ x. eqb (serial x) n) _ _ c.position.result c.position.ensures.ran (YieldsList-from_slice xs c.iter.ensures.rest) (λ x b q k. search rules)
    ∙ position_from-zero (λ x. eqb (serial x) n) xs
    ∙ place_found_with serial n xs in
    record { answer = is; found = place_tells serial n c.position.result xs is }
