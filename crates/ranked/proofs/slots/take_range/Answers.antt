-- `take_range`: the entries behind the range stand where it began.
use Rattle.std.proofs.Common.{◌≡◌, ◌+◌, ◌-◌, List, ◌++◌, take, drop, sym, ap, ◌∙◌, subst, arith}
use Rattle.ranked.specs.Laws.{LawfulRangeRemoval}
use Rattle.ranked.specs.Ranking.{range_of}
use Rattle.ranked.proofs.Removals.{lawful_range_removal}
use Rattle.ranked.proofs.Shifts.{closed_over}
use Rattle.ranked.proofs.slots.take_range.Goals as goal

pub returns : goal.returns
returns g c =
    let n = c.args.n in
    let i = c.args.first in
    let j = c.args.end in
    let was = take n c.args.slots.now in
    let all : n - (j - i) ≡ i + (n - j) = omega arith in
    let is : take (n - (j - i)) c.copy_within.new.self ≡ take i was ++ drop j was =
    ap (λ k. take k c.copy_within.new.self) all
    ∙ ap (take (i + (n - j))) c.copy_within.ensures.after
    ∙ closed_over c.args.slots.now n i j c.requires.0 c.requires.1 c.requires.2 in
    record {
      after = is;
      laws = subst (λ (ys : List g.row.E.Denot). LawfulRangeRemoval g.E.Ranked.ahead g.E.Ranked.serial was (range_of i j was) ys) (sym is) (lawful_range_removal g.E.Ranked.ahead g.E.Ranked.serial was i j c.requires.0);
    }
