use Rattle.std.proofs.Common.{◌≤◌, [], length, sym, arith}
use Rattle.std.proofs.lemmas.List.{length-map, get_or-map, get_or_past}
use Rattle.text.specs.Words.{lent}
use Rattle.lines.proofs.words.word_at.Goals as goal

pub returns-then-i-words : goal.returns-then-i-words
returns-then-i-words c = sym (get_or-map (λ w. w.now) c.args.words.now c.args.i (record { ref_ptr = (0, 0); now = [] }) [] c.if-i-words.true)

pub returns-else-i-words : goal.returns-else-i-words
returns-else-i-words c =
    let past : length (lent c.args.words.now) ≤ c.args.i = omega (arith, length-map c.args.words.now (λ w. w.now)) in
    sym (get_or_past (lent c.args.words.now) c.args.i [] past)
