-- `put_in`: the entries from the place on stand one slot higher.
use Rattle.std.proofs.Common.{◌≡◌, ◌+◌, true, List, take, set, sym, ap, ◌∙◌, subst}
use Rattle.std.specs.List.{insert}
use Rattle.ranked.specs.Laws.{LawfulInsertion}
use Rattle.ranked.specs.Ranking.{ranked_insert}
use Rattle.ranked.proofs.Inserts.{insert_is, lawful_insertion}
use Rattle.ranked.proofs.Shifts.{shifted_up}
use Rattle.ranked.proofs.slots.put_in.Goals as goal

pub returns : goal.returns
returns g c =
    let ahead = g.E.Ranked.ahead in
    let serial = g.E.Ranked.serial in
    let n = c.args.n in
    let i = c.args.place in
    let e = c.args.e in
    let was = take n c.args.slots.now in
    let is : take (n + 1) (set c.copy_within.new.self i e) ≡ ranked_insert ahead e was =
    ap (λ xs. take (n + 1) (set xs i e)) c.copy_within.ensures.after
    ∙ shifted_up c.args.slots.now n i e c.requires.within.0 c.requires.within.1
    ∙ ap (λ i. insert was i e) c.requires.place
    ∙ sym (insert_is ahead e was) in
    let laws = lawful_insertion ahead e g.met.E.Ranked.transitive serial g.met.E.Ranked.connected was in
    record { after = is; laws = subst (λ (ys : List g.row.E.Denot). LawfulInsertion ahead serial e was true ys) (sym is) laws }
