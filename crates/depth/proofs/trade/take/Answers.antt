-- `take`: the lots that go whole are taken out, and the next one is reduced.
use Rattle.std.proofs.Common.{◌≡◌, ◌+◌, ◌-◌, ◌<◌, ◌≤◌, List, ◌++◌, take, drop, ap, ◌∙◌, subst, arith, length-take}
use Rattle.std.proofs.lemmas.Int.{clamps}
use Rattle.std.specs.Prelude.{IfSome}
use Rattle.std.specs.List.{slice_get}
use Rattle.simple.specs.Lots.{contracts}
use Rattle.ranked.specs.Held.{items}
use Rattle.ranked.specs.declared.list.RankedList.{RankedList}
use Rattle.lots.specs.declared.posted.PostedLot.{PostedLot}
use Rattle.depth.specs.Lots.{all_lots}
use Rattle.depth.specs.Running.{Stretch}
use Rattle.depth.proofs.Wholes.{all_taken_whole, taken_at, range_is}
use Rattle.depth.proofs.trade.take.Goals.{then-next-own, else-next-own}
use Rattle.depth.proofs.trade.take.Goals as goal

pub returns-clause-items : goal.returns-clause-items
returns-clause-items c =
    let s = c.args.series in
    let d = c.args.side in
    let q = c.args.quantity in
    let xs = items c.args.lots.now in
    let i = c.places-own.result.start in
    let j = c.places-own.result.end in
    let k = c.whole-gone.result.0 in
    let left = c.whole-gone.result.1 in
    let z : Stretch s d xs i j = subst (λ (ys : List PostedLot). Stretch s d ys i j) c.entries.ensures c.places-own.ensures.stretch in
    let gone : contracts (all_lots (take k (take (j - i) (drop i xs)))) + left ≡ q = subst (λ (ys : List PostedLot). contracts (all_lots (take k (take (j - i) (drop i ys)))) + left ≡ q) c.entries-2.ensures c.whole-gone.ensures.gone in
    let next = subst (λ (ys : List PostedLot). IfSome (slice_get (take (j - i) (drop i ys)) k) (λ x. left < x.lot.size)) c.entries-2.ensures c.whole-gone.ensures.next in
    let few : k ≤ j - i = omega (arith, clamps, length-take (j - i) (drop i c.entries-2.result.now), c.whole-gone.ensures.within) in
    let left_of : RankedList PostedLot → List PostedLot = λ l. take i (items l) ++ drop (i + k) (items l) in
    let out : items c.remove_range.new.self ≡ left_of c.if-next-own.lots = c.remove_range.ensures.items ∙ range_is (items c.if-next-own.lots) i k in
    out
    ∙ elim c.if-next-own.branch [
      | then-next-own w ↦
          ap left_of w.lots-is ∙ taken_at s d xs i j z q k left gone few next w.if-next-own.true (items w.reduce.new.lots) w.reduce.ensures.items
      | else-next-own w ↦ ap left_of w.lots-is ∙ all_taken_whole s d xs i j z q k left gone few (omega arith)
    ]
