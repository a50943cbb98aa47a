use Rattle.std.proofs.Common.{◌≤◌, length, sym, ap, ◌∙◌, arith}
use Rattle.std.proofs.lemmas.List.{drop-map, take_rest, length-map, drop_all}
use Rattle.text.specs.Words.{lent}
use Rattle.lines.proofs.words.words_from.Goals as goal

pub returns-then-i-words : goal.returns-then-i-words
returns-then-i-words c = ap lent (take_rest c.args.words.now c.args.i) ∙ sym (drop-map (λ w. w.now) c.args.i c.args.words.now)

pub returns-else-i-words : goal.returns-else-i-words
returns-else-i-words c =
    let past : length (lent c.args.words.now) ≤ c.args.i = omega (arith, length-map c.args.words.now (λ w. w.now)) in
    sym (drop_all c.args.i (lent c.args.words.now) past)
