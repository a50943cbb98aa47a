-- What a board shows once the quotes of a side are replaced, and when it opens.
use Rattle.std.proofs.Common.{◌≡◌, ℕ, ◌<◌, ◌≤◌, true, false, cond, eqb, ltb, [], length, get_or, set, replicate, refl, sym, ap, ◌∙◌, inl, inr, arith}
use mathlib.Core.Path.{fun_ext}
use Rattle.std.proofs.lemmas.Bool.{cases_Bool, eqb-true, le-ltb}
use Rattle.std.proofs.lemmas.List.{get_or-set_same, get_or-set_other, get_or-replicate}
use Rattle.std.proofs.lemmas.Bool.Decides.{nat_tests}
use Rattle.simple.specs.declared.lot.Side.{Side}
use Rattle.simple.specs.declared.lot.Side.TheVariants.{Bid, Offer}
use Rattle.boards.specs.declared.quote.Quotes.{Quotes}
use Rattle.boards.specs.declared.quote.Sides.{Sides}
use Rattle.boards.specs.declared.board.QuoteBoard.{QuoteBoard}
use Rattle.boards.specs.Limits.{last_quoted, quoted_count}
use Rattle.simple.specs.Lots.{with_side}
use Rattle.boards.specs.Board.{side_lots, quotes_of, board_lots, no_quotes, no_sides}

-- the board with the two quotes of one side replaced
abbrev pub with_quotes : QuoteBoard → ℕ → Side → Quotes → QuoteBoard
with_quotes b s Bid q = record { series = set b.series s (record { bids = q; offers = (get_or b.series s no_sides).offers }) }
with_quotes b s Offer q = record { series = set b.series s (record { bids = (get_or b.series s no_sides).bids; offers = q }) }

-- it shows that side anew, and every other as it was
module _ (b : QuoteBoard) (s : ℕ) (q : Quotes) (low : s ≤ last_quoted) (long : s < length b.series) where
  sides_set : (t : Sides) (s' : ℕ) → get_or (set b.series s t) s' no_sides ≡ cond (eqb s' s) t (get_or b.series s' no_sides)
  sides_set t s' = grind (arith, nat_tests, get_or-set_same, get_or-set_other)

  -- a side as the board shows it
  side_set : (t : Sides) (s' : ℕ) (d' : Side) → board_lots (record { series = set b.series s t }) s' d' ≡ cond (eqb s' s) (side_lots d' (quotes_of t d')) (board_lots b s' d')
  side_set t s' d' =
      elim (cases_Bool (eqb s' s)) [
        | inl e ↦
            let same : s' ≡ s = eqb-true s' s e in
            let carried : ltb last_quoted s' ≡ false = le-ltb last_quoted s' (omega arith) in
            ap (λ u. cond (ltb last_quoted s') [] (side_lots d' (quotes_of u d'))) (sides_set t s') ∙ rw (carried, e) refl
        | inr e ↦ ap (λ u. cond (ltb last_quoted s') [] (side_lots d' (quotes_of u d'))) (sides_set t s') ∙ rw e refl
      ]

  -- the other side of the series is as it was
  same_here : (s' : ℕ) (d' : Side) → eqb s' s ≡ true → side_lots d' (quotes_of (get_or b.series s no_sides) d') ≡ board_lots b s' d'
  same_here s' d' e =
      let same : s' ≡ s = eqb-true s' s e in
      let carried : ltb last_quoted s' ≡ false = le-ltb last_quoted s' (omega arith) in
      ap (λ k. side_lots d' (quotes_of (get_or b.series k no_sides) d')) (sym same) ∙ rw carried refl

  pub board_put : (d : Side) → board_lots (with_quotes b s d q) ≡ with_side (board_lots b) s d (side_lots d q)
  board_put d = fun_ext (λ s'. fun_ext (λ d'. at d s' d'))
    where
      at : (d : Side) (s' : ℕ) (d' : Side) → board_lots (with_quotes b s d q) s' d' ≡ with_side (board_lots b) s d (side_lots d q) s' d'
      at Bid s' Bid = side_set _ s' Bid ∙ elim (cases_Bool (eqb s' s)) [ inl e ↦ simp e | inr e ↦ simp e ]
      at Bid s' Offer = side_set _ s' Offer ∙ elim (cases_Bool (eqb s' s)) [ inl e ↦ simp e (same_here s' Offer e) | inr e ↦ simp e ]
      at Offer s' Bid = side_set _ s' Bid ∙ elim (cases_Bool (eqb s' s)) [ inl e ↦ simp e (same_here s' Bid e) | inr e ↦ simp e ]
      at Offer s' Offer = side_set _ s' Offer ∙ elim (cases_Bool (eqb s' s)) [ inl e ↦ simp e | inr e ↦ simp e ]

-- a row of sides without quotes shows no lot
pub row_none : (p q : Quotes) → p ≡ no_quotes → q ≡ no_quotes → (s : ℕ) (d : Side) → s ≤ last_quoted → side_lots d (quotes_of (get_or (replicate quoted_count (record { bids = p; offers = q })) s no_sides) d) ≡ []
row_none p q e f s d low =
    let here : get_or (replicate quoted_count (record { bids = p; offers = q })) s no_sides ≡ record { bids = p; offers = q } = get_or-replicate quoted_count s _ no_sides (omega arith) in
    ap (λ t. side_lots d (quotes_of t d)) here ∙ ap (side_lots d) (both d)
  where
    both : (d : Side) → quotes_of (record { bids = p; offers = q }) d ≡ no_quotes
    both Bid = e
    both Offer = f
