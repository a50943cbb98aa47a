-- The lists of a board are those that a simple book can have.
use Rattle.std.specs.Prelude.{◌≡◌, ◌≤◌, Bool, true, false, not, ◌&&◌, ◌||◌, [], ◌++◌, ◌==◌, nat_lt, Some, None, Option, IfSome, refl}
use Rattle.std.specs.Option.{option_map, option_to_list}
use Rattle.std.proofs.Common.{sym, inl, inr, arith}
use Rattle.std.proofs.lemmas.Bool.{cond_both, eqb-false, eq-eqb, ltb-false, lt-ltb, not-false, cases_lt, and_cases, and_from, or_parts, or_left, or_right}
use Rattle.simple.specs.declared.lot.Side.{Side}
use Rattle.simple.specs.declared.lot.Side.TheVariants.{Bid, Offer}
use Rattle.simple.specs.declared.lot.Lot.{Lot}
use Rattle.boards.specs.declared.quote.Quote.{Quote}
use Rattle.boards.specs.declared.quote.Quotes.{Quotes}
use Rattle.boards.specs.declared.board.QuoteBoard.{QuoteBoard}
use Rattle.simple.specs.Limits.{side_limit, lot_limit}
use Rattle.boards.specs.Limits.{last_quoted}
use Rattle.simple.specs.Lots.{precedes, Sound, Ranked, contracts, Lawful}
use Rattle.boards.specs.Board.{quote_lot, ahead_of, in_rank, side_lots, quotes_at, board_lots}

-- of two lots one precedes the other
module _ (x y : Lot) where
  tied : (x.price == y.price && (x.customer || not y.customer)) ≡ false → x.price ≡ y.price → (y.price == x.price && (y.customer || not x.customer)) ≡ true
  tied h same =
      elim (and_cases (x.price == y.price) (x.customer || not y.customer) h) [
        | inl apart ↦ absurd (eqb-false x.price y.price apart same)
        | inr behind ↦
            and_from (y.price == x.price) (y.customer || not x.customer) (eq-eqb y.price x.price (sym same))
            (or_left y.customer (not x.customer) (not-false y.customer (or_parts x.customer (not y.customer) behind).1))
      ]

  pub precedes_total : (d : Side) → precedes d x y ≡ false → precedes d y x ≡ true
  precedes_total Bid h =
      let no = or_parts (nat_lt y.price x.price) _ h in
      let low : x.price ≤ y.price = ltb-false y.price x.price no.0 in
      elim (cases_lt x.price y.price) [
        | inl less ↦ or_left (nat_lt x.price y.price) _ (lt-ltb x.price y.price less)
        | inr more ↦ or_right (nat_lt x.price y.price) _ (tied no.1 (omega arith))
      ]
  precedes_total Offer h =
      let no = or_parts (nat_lt x.price y.price) _ h in
      let high : y.price ≤ x.price = ltb-false x.price y.price no.0 in
      elim (cases_lt y.price x.price) [
        | inl less ↦ or_left (nat_lt y.price x.price) _ (lt-ltb y.price x.price less)
        | inr more ↦ or_right (nat_lt y.price x.price) _ (tied no.1 (omega arith))
      ]

-- a lot that a board may hold
record Quotable (l : Lot) : Type 0 where
  sound : Sound l
  small : l.size ≤ lot_limit

-- or none
abbrev Fine : Option Lot → Type 0
Fine o = IfSome o Quotable

quotable : (c : Bool) (o : Option Quote) → Fine (option_map (quote_lot c) o)
quotable c None = tt
quotable c (Some q) = record { sound = record { least = q.sound.0; most = q.sound.1; some = q.sound.2 }; small = q.sound.3 }

-- x is ahead of y, if both stand
abbrev Ahead : Side → Option Lot → Option Lot → Type 0
Ahead d x y = IfSome x (λ a. IfSome y (λ b. precedes d a b ≡ true))

pair_ranked : (d : Side) (x y : Option Lot) → Fine x → Fine y → Ahead d x y → Ranked d (option_to_list x ++ option_to_list y)
pair_ranked d None None p q a = tt
pair_ranked d None (Some y) p q a = (q.sound, tt, tt)
pair_ranked d (Some x) None p q a = (p.sound, tt, tt)
pair_ranked d (Some x) (Some y) p q a = (p.sound, (a, tt), (q.sound, tt, tt))

pair_within : (x y : Option Lot) → Fine x → Fine y → contracts (option_to_list x ++ option_to_list y) ≤ side_limit
pair_within None None p q = omega arith
pair_within None (Some y) p q = omega (arith, q.small)
pair_within (Some x) None p q = omega (arith, p.small)
pair_within (Some x) (Some y) p q = omega (arith, p.small, q.small)

first_ahead : (d : Side) (x y : Option Lot) → ahead_of d x y ≡ true → Ahead d x y
first_ahead d None y e = tt
first_ahead d (Some x) None e = tt
first_ahead d (Some x) (Some y) e = e

second_ahead : (d : Side) (x y : Option Lot) → ahead_of d x y ≡ false → Ahead d y x
second_ahead d None None e = tt
second_ahead d None (Some y) e = tt
second_ahead d (Some x) None e = tt
second_ahead d (Some x) (Some y) e = precedes_total x y d e

module _ (d : Side) (x y : Option Lot) (p : Fine x) (q : Fine y) where
  rank_ranked : Ranked d (in_rank d x y)
  rank_ranked =
      cond_both (ahead_of d x y) (option_to_list x ++ option_to_list y) (option_to_list y ++ option_to_list x) (Ranked d)
      (λ e. pair_ranked d x y p q (first_ahead d x y e)) (λ e. pair_ranked d y x q p (second_ahead d x y e))

  rank_within : contracts (in_rank d x y) ≤ side_limit
  rank_within =
      cond_both (ahead_of d x y) (option_to_list x ++ option_to_list y) (option_to_list y ++ option_to_list x) (λ ls. contracts ls ≤ side_limit)
      (λ _. pair_within x y p q) (λ _. pair_within y x q p)

side_ranked : (d : Side) (q : Quotes) → Ranked d (side_lots d q)
side_ranked d q = rank_ranked d (option_map (quote_lot true) q.customer) (option_map (quote_lot false) q.maker) (quotable true q.customer) (quotable false q.maker)

side_within : (d : Side) (q : Quotes) → contracts (side_lots d q) ≤ side_limit
side_within d q = rank_within d (option_map (quote_lot true) q.customer) (option_map (quote_lot false) q.maker) (quotable true q.customer) (quotable false q.maker)

pub board_lawful : (b : QuoteBoard) → Lawful (board_lots b)
board_lawful b = record {
  ranked = λ s d. cond_both (nat_lt last_quoted s) [] (side_lots d (quotes_at b s d)) (Ranked d) (λ _. tt) (λ _. side_ranked d (quotes_at b s d));
  within = λ s d. cond_both (nat_lt last_quoted s) [] (side_lots d (quotes_at b s d)) (λ ls. contracts ls ≤ side_limit) (λ _. omega arith) (λ _. side_within d (quotes_at b s d));
  listed = λ s d h. cond_both (nat_lt last_quoted s) [] (side_lots d (quotes_at b s d)) (λ ls. ls ≡ []) (λ _. refl) (λ e. absurd (omega (arith, ltb-false last_quoted s e)));
}
