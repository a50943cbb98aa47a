use Rattle.std.proofs.Common.{sym, ap, ◌∙◌}
use Rattle.simple.specs.Take.{Done, after, taken}
use Rattle.holds.specs.Hold.{layer_lots}
use Rattle.replay.specs.declared.answer.Answer.TheVariants.{Best as best}
use Rattle.replay.specs.Calls.{done_answer, layer_answer, layer_leaves, marks_after}
use Rattle.replay.proofs.Layers.{whole, told, same_marks, same_below, left_below}
use Rattle.replay.proofs.layer.call_layer.Goals as goal

pub returns-in-Best : goal.returns-in-Best
returns-in-Best g c =
    let lots = g.B.SimpleBook.lots in
    let frame = g.B.SimpleBook.frame in
    let h = c.args.layer.now in
    let h' = c.best.new.self in
    let same = c.best.ensures.frame in
    let call = c.in-Best.is in
    record {
      answer = ap best c.best.ensures.answer ∙ sym (ap (layer_answer (layer_lots lots h)) call);
      lots = told lots frame h h' same (layer_lots lots h) c.best.ensures.lots ∙ whole h.marks (lots h.book) (frame h.book) ∙ sym (ap (layer_leaves h.marks (lots h.book)) call);
      marks = same_marks lots frame h h' same ∙ sym (ap (marks_after h.marks) call);
      frame = same_below lots frame h h' same;
    }

pub returns-in-Take : goal.returns-in-Take
returns-in-Take g c =
    let lots = g.B.SimpleBook.lots in
    let frame = g.B.SimpleBook.frame in
    let h = c.args.layer.now in
    let h' = c.take.new.self in
    let same = c.take.ensures.frame in
    let call = c.in-Take.is in
    let m = h.marks in
    let b = lots h.book in
    let s = c.in-Take.series in
    let d = c.in-Take.side in
    let q = c.in-Take.quantity in
    let r = c.take.result in
    let answer = c.take.ensures.answer in
    record {
      answer = c.done_answer.ensures ∙ ap done_answer answer ∙ sym (ap (layer_answer (layer_lots lots h)) call);
      lots =
          told lots frame h h' same (after r (taken (layer_lots lots h) s d q) (layer_lots lots h)) c.take.ensures.lots
          ∙ left_below m b s d q (frame h.book) r answer
          ∙ ap (λ (x : Done). after x (taken b s d q) b) answer
          ∙ sym (ap (layer_leaves m b) call);
      marks = same_marks lots frame h h' same ∙ sym (ap (marks_after m) call);
      frame = same_below lots frame h h' same;
    }
