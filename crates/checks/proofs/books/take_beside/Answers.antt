-- The frame that take leaves holds the lots of the series on hold.
use Rattle.std.proofs.Common.{◌≡◌, ℕ, Bool, true, eqb, ltb, Ok, refl, ap, ◌∙◌}
use Rattle.std.proofs.lemmas.Bool.{cond-false, cond-true, eq-eqb, le-ltb}
use Rattle.simple.specs.Limits.{last_series}
use Rattle.simple.specs.Take.{Done, after}
use Rattle.holds.specs.Hold.{on_hold, re_marked}
use Rattle.holds.proofs.Holds.{undisturbed}
use Rattle.checks.proofs.books.take_beside.Goals as goal

pub returns : goal.returns
returns g c low d =
    let s = c.args.held in
    let lots = g.B.SimpleBook.lots in
    let marks = c.new-layer.result.marks in
    let done : c.hold.result ≡ Ok tt = c.hold.ensures.answer ∙ cond-false (ltb last_series s) _ (Ok tt) (le-ltb last_series s low) in
    let held : on_hold c.hold.new.self.marks s ≡ true =
    ap (λ (f : ℕ → Bool). f s) c.hold.ensures.held ∙ ap (λ (r : Done). after r (re_marked marks s true) (on_hold marks) s) done ∙ cond-true (eqb s s) true _ (eq-eqb s s refl) in
    let stays = undisturbed lots g.B.SimpleBook.frame c.hold.new.self c.take.new.self c.take.ensures.frame s d held in
    ap (λ b. lots b s d) c.into_parts-book.ensures.book ∙ stays ∙ ap (λ b. lots b s d) (c.hold.ensures.book ∙ c.new-layer.ensures.book)
