-- `take_out`: the entries behind the place stand one slot lower.
use Rattle.std.proofs.Common.{◌≡◌, ◌-◌, List, take, Some, sym, ap, ◌∙◌, subst, arith}
use Rattle.std.specs.List.{slice_get, remove}
use Rattle.ranked.specs.Laws.{LawfulRemoval}
use Rattle.ranked.proofs.Finds.{nth_front}
use Rattle.ranked.proofs.Removals.{lawful_removal}
use Rattle.ranked.proofs.Shifts.{shifted_down}
use Rattle.ranked.proofs.slots.take_out.Goals as goal

pub returns : goal.returns
returns g c =
    let ahead = g.E.Ranked.ahead in
    let serial = g.E.Ranked.serial in
    let n = c.args.n in
    let i = c.args.place in
    let e = c.index-slots-place.result in
    let slots = c.args.slots.now in
    let was = take n slots in
    let at : slice_get was i ≡ Some e = nth_front slots n i e c.requires.0 (omega arith) c.index-slots-place.is in
    let is : take (n - 1) c.copy_within.new.self ≡ remove was i =
    ap (take (n - 1)) c.copy_within.ensures.after ∙ shifted_down slots n i c.requires.0 c.requires.1 in
    record {
      answer = sym at;
      after = is;
      laws = subst (λ (ys : List g.row.E.Denot). LawfulRemoval ahead serial was (Some e) ys) (sym is) (lawful_removal ahead serial was i e at);
    }
