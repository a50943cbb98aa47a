-- `exchange`: one slot is written.
use Rattle.std.proofs.Common.{◌≡◌, List, take, set, Some, sym, ap, ◌∙◌, subst, arith}
use lib.Seq.{take-set-lt}
use Rattle.std.specs.List.{slice_get}
use Rattle.ranked.specs.Laws.{LawfulReplacement}
use Rattle.ranked.proofs.Finds.{nth_front}
use Rattle.ranked.proofs.Replacements.{lawful_replacement}
use Rattle.ranked.proofs.slots.exchange.Goals as goal

pub returns-clause-after : goal.returns-clause-after
returns-clause-after g c =
    ap (λ x. take c.args.n (set c.args.slots.now c.args.place x)) c.replace.ensures.after
    ∙ take-set-lt c.args.n c.args.slots.now c.args.place c.args.e c.if-place-n.false

pub returns-clause-laws : goal.returns-clause-laws
returns-clause-laws g c =
    let ahead = g.E.Ranked.ahead in
    let serial = g.E.Ranked.serial in
    let n = c.args.n in
    let i = c.args.place in
    let e = c.args.e in
    let old = c.replace.result in
    let was = take n c.args.slots.now in
    let at : slice_get was i ≡ Some old =
    nth_front c.args.slots.now n i c.index-slots-place.result c.if-place-n.false (omega arith) c.index-slots-place.is ∙ ap Some (c.index-slots-place.is ∙ sym c.replace.ensures.value) in
    subst (λ (ys : List g.row.E.Denot). LawfulReplacement ahead serial e was (Some old) ys) (sym (returns-clause-after g c)) (lawful_replacement ahead serial e was i old at)
