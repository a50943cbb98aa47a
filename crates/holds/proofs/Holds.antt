-- What a hold layer shows and hides.
use Rattle.std.proofs.Common.{◌≡◌, ℕ, true, false, cond, ◌&&◌, ◌||◌, eqb, ltb, leb, List, [], get_or, Ok, Err, sym, refl, ap, ◌∙◌, arith}
use Rattle.std.proofs.lemmas.Bool.{and_parts, leb-true, le-ltb, cond-false, cond-true}
use Rattle.std.proofs.lemmas.List.{get_or-replicate}
use Rattle.std.proofs.lemmas.Bool.Decides.{nat_tests}
use Rattle.refusals.specs.declared.reason.Reason.TheVariants.{NoSeries, TooMany}
use Rattle.refusals.specs.declared.station.Station.TheVariants.{Take}
use Rattle.refusals.specs.Refusals.{refused_at}
use Rattle.simple.specs.declared.lot.Lot.{Lot}
use Rattle.holds.specs.declared.layer.HoldLayer.{HoldLayer}
use Rattle.simple.specs.declared.lot.Side.{Side}
use Rattle.simple.specs.Limits.{last_series, series_count}
use Rattle.simple.specs.Lots.{Lots}
use Rattle.simple.specs.Best.{best_of, best_size}
use Rattle.simple.specs.Take.{Done, take_answer}
use Rattle.holds.specs.Hold.{Marks, no_marks, on_hold, shown, hidden, HoldFrame, layer_frame}

module _ (m : Marks) (b : Lots) (s : ℕ) (d : Side) (held : on_hold m s ≡ true) where
  pub held_empty : shown m b s d ≡ []
  held_empty = cond-true (on_hold m s) [] (b s d) held

  -- nothing can be taken of a series on hold
  pub held_answer : (q : ℕ) → take_answer (shown m b) s d q ≡ Err (refused_at Take TooMany)
  held_answer q =
      let listed : ltb last_series s ≡ false = le-ltb last_series s (leb-true s last_series (and_parts (leb s last_series) (get_or m s false) held).0) in
      let none : (eqb q 0 || ltb 0 q) ≡ true = grind (arith, nat_tests) in
      let refused : ◌≡◌ {A = Done} (cond (eqb q 0 || ltb (best_size (best_of (shown m b s d))) q) (Err (refused_at Take TooMany)) (Ok tt)) (Err (refused_at Take TooMany)) =
      ap (λ (ls : List Lot). cond (eqb q 0 || ltb (best_size (best_of ls)) q) (Err (refused_at Take TooMany)) (Ok tt)) held_empty
      ∙ cond-true (eqb q 0 || ltb 0 q) (Err (refused_at Take TooMany)) (Ok tt) none in
      cond-false (ltb last_series s) (Err (refused_at Take NoSeries)) _ listed ∙ refused

-- no series is on hold at first
pub none_held : (s : ℕ) → on_hold no_marks s ≡ false
unfolding no_marks
none_held s =
    elim (leb s last_series) as (λ t. leb s last_series ≡ t → (t && get_or no_marks s false) ≡ false) [
      | true ↦ λ e. let low = leb-true s last_series e in get_or-replicate series_count s false false (omega arith)
      | false ↦ λ _. refl
    ] refl

-- where two layers have one frame, the books below have the same lots of a series on hold
module _ {B F : Type 0} (lots : B → Lots) (frame : B → F) (before h : HoldLayer B) where
  pub undisturbed : layer_frame lots frame h ≡ layer_frame lots frame before → (s : ℕ) (d : Side) → on_hold before.marks s ≡ true → lots h.book s d ≡ lots before.book s d
  undisturbed same s d held =
      let marks : h.marks ≡ before.marks = ap (λ (f : HoldFrame F). f.marks) same in
      let here : on_hold h.marks s ≡ true = ap (λ m. on_hold m s) marks ∙ held in
      let kept : hidden h.marks (lots h.book) s d ≡ hidden before.marks (lots before.book) s d = ap (λ (f : HoldFrame F). f.hidden s d) same in
      sym (cond-true (on_hold h.marks s) (lots h.book s d) [] here) ∙ kept ∙ cond-true (on_hold before.marks s) (lots before.book s d) [] held
