-- What stands below a hold layer after a call through it.
use Rattle.std.proofs.Common.{◌≡◌, ℕ, Bool, true, false, cond, ◌&&◌, eqb, List, [], Ok, Err, sym, refl, ap, ◌∙◌, arith}
use mathlib.Core.Path.{fun_ext}
use Rattle.std.proofs.lemmas.Bool.{cond_both, cond-false, cond-true, and_parts, eqb-true}
use Rattle.simple.specs.declared.lot.Lot.{Lot}
use Rattle.simple.specs.declared.lot.Side.{Side}
use Rattle.holds.specs.declared.layer.HoldLayer.{HoldLayer}
use Rattle.simple.specs.Lots.{Lots, same_side}
use Rattle.simple.specs.Take.{Done, after, take_from, taken, take_answer}
use Rattle.holds.specs.Hold.{Marks, on_hold, shown, hidden, HoldFrame, hold_frame, beneath, layer_lots, layer_frame}
use Rattle.holds.proofs.Holds.{held_answer}

-- what is hidden and what is shown are the whole
both_parts : (t : Bool) (ls : List Lot) → cond t (cond t ls []) (cond t [] ls) ≡ ls
both_parts true ls = refl
both_parts false ls = refl

pub whole : {F : Type 0} (m : Marks) (b : Lots) (f : F) → beneath (hold_frame m b f) (shown m b) ≡ b
whole m b f = fun_ext (λ s. fun_ext (λ d. both_parts (on_hold m s) (b s d)))

-- a book is told from the layer over it
module _ {B F : Type 0} (lots : B → Lots) (frame : B → F) (h h' : HoldLayer B) (same : layer_frame lots frame h' ≡ layer_frame lots frame h) where
  pub told : (seen : Lots) → layer_lots lots h' ≡ seen → lots h'.book ≡ beneath (layer_frame lots frame h) seen
  told seen e = sym (whole h'.marks (lots h'.book) (frame h'.book)) ∙ (λ i. beneath (same i) (e i))

  pub same_marks : h'.marks ≡ h.marks
  same_marks = ap (λ (f : HoldFrame F). f.marks) same

  pub same_below : frame h'.book ≡ frame h.book
  same_below = ap (λ (f : HoldFrame F). f.below) same

-- what is taken through a layer is taken from a series that is not on hold
module _ (m : Marks) (b : Lots) (s : ℕ) (d : Side) (q : ℕ) where
  free : Ok tt ≡ take_answer (shown m b) s d q → on_hold m s ≡ false
  free granted =
      elim (on_hold m s) as (λ t. on_hold m s ≡ t → t ≡ false) [
        | true ↦ λ held. let refused = held_answer m b s d held q in let z : ◌≡◌ {A = ℕ} 0 1 = cc in absurd (omega arith)
        | false ↦ λ _. refl
      ] refl

  taken_at : {F : Type 0} (f : F) → on_hold m s ≡ false → (s' : ℕ) (d' : Side) → beneath (hold_frame m b f) (taken (shown m b) s d q) s' d' ≡ taken b s d q s' d'
  taken_at f clear s' d' =
      cond_both (eqb s' s && same_side d' d) (take_from q (shown m b s d)) (shown m b s' d') (λ ls. cond (on_hold m s') (hidden m b s' d') ls ≡ taken b s d q s' d')
      (λ here.
      let series : s' ≡ s = eqb-true s' s (and_parts (eqb s' s) (same_side d' d) here).0 in
      let clear' : on_hold m s' ≡ false = ap (on_hold m) series ∙ clear in
      cond-false (on_hold m s') _ _ clear' ∙ ap (take_from q) (cond-false (on_hold m s) [] (b s d) clear) ∙ sym (cond-true (eqb s' s && same_side d' d) (take_from q (b s d)) (b s' d') here))
      (λ there. both_parts (on_hold m s') (b s' d') ∙ sym (cond-false (eqb s' s && same_side d' d) (take_from q (b s d)) (b s' d') there))

  -- the book below is left with as much less
  pub left_below : {F : Type 0} (f : F) (r : Done) → r ≡ take_answer (shown m b) s d q → beneath (hold_frame m b f) (after r (taken (shown m b) s d q) (shown m b)) ≡ after r (taken b s d q) b
  left_below f (Ok tt) e = let clear = free e in fun_ext (λ s'. fun_ext (λ d'. taken_at f clear s' d'))
  left_below f (Err x) e = whole m b f
