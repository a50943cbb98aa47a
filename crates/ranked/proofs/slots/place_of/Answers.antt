-- `place_of`: the first entry that is not ahead of e.
use Rattle.std.proofs.Common.{◌≡◌, ◌+◌, not, length, ap, ◌∙◌, rules, arith}
use Rattle.std.specs.List.{position_from}
use Rattle.std.specs.Option.{unwrap_or}
use Rattle.std.proofs.lemmas.List.Sums.{prefix_len-le-length}
use Rattle.std.proofs.lemmas.Iterator.{YieldsList-from_slice}
use Rattle.std.proofs.lemmas.Iterator.Search.{position_from_yields_List}
use Rattle.std.proofs.lemmas.Iterator.Adapters.{position_from-zero}
use Rattle.ranked.specs.Ranking.{place_of}
use Rattle.ranked.proofs.Finds.{place_found}
use Rattle.ranked.proofs.slots.place_of.Goals as goal

pub returns : goal.returns
returns g c =
    let ahead = g.E.Ranked.ahead in
    let e = c.args.e.now in
    let xs = c.args.entries.now in
    let found : c.position.result ≡ position_from (λ x. not (ahead x e)) 0 xs =
    position_from_yields_List (λ x. not (ahead x e)) _ _ c.position.result c.position.ensures.ran (YieldsList-from_slice _ c.iter.ensures.rest) (λ x b q k. search rules)
    ∙ position_from-zero (λ x. not (ahead x e)) xs in
    let place : unwrap_or c.position.result (length xs) ≡ 0 + place_of ahead e xs = ap (λ o. unwrap_or o (length xs)) found ∙ place_found ahead e 0 xs (length xs) (omega arith) in
    let is : c.unwrap_or.result ≡ place_of ahead e xs = omega (arith, c.unwrap_or.ensures, place) in
    record { place = is; within = omega (arith, prefix_len-le-length (λ x. ahead x e) xs) }
