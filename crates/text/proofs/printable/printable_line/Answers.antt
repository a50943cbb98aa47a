use Rattle.std.proofs.Common.{◌≡◌, [], ◌∷◌, ◌++◌, string_bytes, sym, ap, ◌∙◌, arith}
use Rattle.std.proofs.lemmas.List.{take_all}
use Rattle.text.specs.Printable.{printable_line}
use Rattle.text.specs.Words.{lent, words_of}
use Rattle.text.proofs.Lines.{shown_none, first_word, next_word, words_again}
use Rattle.text.proofs.printable.printable_line.Goals as goal
use Rattle.text.proofs.printable.printable_line.Goals.{then-i-gt0+in_ok-push, else-i-gt0}

pub loop-i-init : goal.loop-i-init
loop-i-init c = c.new-line.ensures.bytes ∙ sym shown_none

pub loop-i-preserved : goal.loop-i-preserved
loop-i-preserved c =
    let told = c.in_ok-push_printable.ensures in
    elim c.if-i-gt0.branch [
      | then-i-gt0+in_ok-push w ↦
          let gap : string_bytes c.if-i-gt0.line ≡ string_bytes c.loop-i.line ++ 32 ∷ [] =
          ap string_bytes w.line-is ∙ w.in_ok-push.ensures.bytes ∙ ap (λ bs. string_bytes c.loop-i.line ++ bs) (w.in_ok-push.ensures.ascii (omega arith)) in
          next_word _ _ _ c.loop-i-test.true _ _ c.loop-i.invariant _ w.if-i-gt0.true gap told
      | else-i-gt0 w ↦
          first_word _ _ _ c.loop-i-test.true _ _ c.loop-i.invariant _ (omega (arith, w.if-i-gt0.false)) (ap string_bytes w.line-is) told
    ]

pub returns : goal.returns
returns c =
    let shown : string_bytes c.loop-i.line ≡ printable_line (lent c.args.words.now) = c.loop-i.invariant ∙ ap (λ ws. printable_line (lent ws)) (take_all _ _ c.loop-i-test.false) in
    record { shown = shown; read_again = λ h. ap words_of shown ∙ words_again _ h }
