-- The lots of a depth book are lists that a simple book can have.
use Rattle.std.specs.Prelude.{◌≡◌, ℕ, zero, suc, ◌<◌, Bool, true, false, cond, not, ◌&&◌, ◌||◌, ◌⊎◌, List, [], ◌∷◌, pos, neg_ℤ, ◌==◌, int_lt, nat_lt, refl}
use Rattle.std.proofs.Common.{sym, ◌∙◌, inl, inr, arith}
use Rattle.std.specs.List.{AllByRecursion}
use Rattle.std.proofs.lemmas.Bool.{cond_both, and_parts, eqb-true, eq-eqb, ltb-false, lt-ltb, le-ltb, false≢true, cases_lt, and_from, or_left, or_right}
use Rattle.simple.specs.declared.lot.Side.{Side}
use Rattle.simple.specs.declared.lot.Side.TheVariants.{Bid, Offer}
use Rattle.simple.specs.declared.lot.Lot.{Lot}
use Rattle.simple.specs.Limits.{last_series}
use Rattle.simple.specs.Lots.{same_side, precedes, Ranked, Lawful}
use Rattle.ranked.specs.Lex.{lex, first_if, better}
use Rattle.ranked.specs.Ranking.{Sorted}
use Rattle.ranked.proofs.Lexes.{lex_same}
use Rattle.lots.specs.declared.posted.PostedLot.{PostedLot}
use Rattle.lots.specs.Rank.{is_bid, lot_ahead}
use Rattle.depth.specs.Lots.{stands_on, lots_of, Fit, Sound}

one_side : (e d : Side) → same_side e d ≡ true → e ≡ d
one_side Bid Bid h = refl
one_side Bid Offer h = cc
one_side Offer Bid h = cc
one_side Offer Offer h = refl

-- where a lot stands
module _ (s : ℕ) (d : Side) (x : PostedLot) (on : stands_on s d x ≡ true) where
  pub on_series : x.series ≡ s
  on_series = eqb-true x.series s (and_parts (x.series == s) (same_side x.side d) on).0

  pub on_side : x.side ≡ d
  on_side = one_side x.side d (and_parts (x.series == s) (same_side x.side d) on).1

-- the rank within one side: by price, class and number
abbrev pub side_ahead : Bool → ℕ → Bool → ℕ → ℕ → Bool → ℕ → Bool
side_ahead bid p c m q k n = lex (better bid (pos p)) (better bid (pos q)) (lex (first_if c) (first_if k) (nat_lt m n))

pub ahead_on_side : (s : ℕ) (d : Side) (x y : PostedLot) → stands_on s d x ≡ true → stands_on s d y ≡ true
    → lot_ahead x y ≡ side_ahead (is_bid d) x.lot.price x.lot.customer x.number y.lot.price y.lot.customer y.number
ahead_on_side s d x y e f =
    let series : pos x.series ≡ pos y.series = let a = on_series s d x e in let b = on_series s d y f in cc in
    let side : first_if (is_bid x.side) ≡ first_if (is_bid y.side) = let a = on_side s d x e in let b = on_side s d y f in cc in
    lex_same _ _ _ series ∙ lex_same _ _ _ side ∙ rw (on_side s d x e, on_side s d y f)

-- a key is lower, or it is no higher and what comes next decides
lex_parts : (t u next : Bool) → cond t true (cond u false next) ≡ true → (t ≡ true) ⊎ ((t ≡ false) × (u ≡ false) × (next ≡ true))
lex_parts true u next h = inl refl
lex_parts false true next h = absurd (false≢true h)
lex_parts false false next h = inr (refl, refl, h)

negated : (p q : ℕ) → int_lt (neg_ℤ (pos p)) (neg_ℤ (pos q)) ≡ nat_lt q p
negated zero zero = refl
negated zero (suc q) = sym (le-ltb (suc q) 0 (omega arith))
negated (suc p) zero = sym (lt-ltb 0 (suc p) (omega arith))
negated (suc p) (suc q) =
    elim (cases_lt q p) [
      | inl h ↦ lt-ltb q p h ∙ sym (lt-ltb (suc q) (suc p) (omega arith))
      | inr h ↦ le-ltb q p h ∙ sym (le-ltb (suc q) (suc p) (omega arith))
    ]

class_first : (c k : Bool) (last : Bool) → lex (first_if c) (first_if k) last ≡ true → (c || not k) ≡ true
class_first true k last h = refl
class_first false false last h = refl
class_first false true last h = absurd (false≢true h)

module _ (p m q n : ℕ) (c k : Bool) where
  tied : p ≡ q → lex (first_if c) (first_if k) (nat_lt m n) ≡ true → (p == q && (c || not k)) ≡ true
  tied e h = and_from (p == q) (c || not k) (eq-eqb p q e) (class_first c k (nat_lt m n) h)

  bid_precedes : side_ahead true p c m q k n ≡ true → (nat_lt q p || (p == q && (c || not k))) ≡ true
  bid_precedes h =
      elim (lex_parts (int_lt (neg_ℤ (pos p)) (neg_ℤ (pos q))) (int_lt (neg_ℤ (pos q)) (neg_ℤ (pos p))) (lex (first_if c) (first_if k) (nat_lt m n)) h) [
        | inl up ↦ or_left (nat_lt q p) _ (sym (negated p q) ∙ up)
        | inr (low, high, next) ↦
            let a = ltb-false q p (sym (negated p q) ∙ low) in
            let b = ltb-false p q (sym (negated q p) ∙ high) in
            or_right (nat_lt q p) _ (tied (omega arith) next)
      ]

  offer_precedes : side_ahead false p c m q k n ≡ true → (nat_lt p q || (p == q && (c || not k))) ≡ true
  offer_precedes h =
      elim (lex_parts (nat_lt p q) (nat_lt q p) (lex (first_if c) (first_if k) (nat_lt m n)) h) [
        | inl down ↦ or_left (nat_lt p q) _ down
        | inr (high, low, next) ↦
            let a = ltb-false p q high in
            let b = ltb-false q p low in
            or_right (nat_lt p q) _ (tied (omega arith) next)
      ]

-- of two lots of one side the one that is ahead precedes the other
side_precedes : (d : Side) (x y : Lot) (m n : ℕ) → side_ahead (is_bid d) x.price x.customer m y.price y.customer n ≡ true → precedes d x y ≡ true
side_precedes Bid x y m n h = bid_precedes x.price m y.price n x.customer y.customer h
side_precedes Offer x y m n h = offer_precedes x.price m y.price n x.customer y.customer h

module _ (s : ℕ) (d : Side) where
  all_behind : (x : PostedLot) → stands_on s d x ≡ true → (ys : List PostedLot) → AllByRecursion (λ y. lot_ahead x y ≡ true) ys → AllByRecursion (λ l. precedes d x.lot l ≡ true) (lots_of ys s d)
  all_behind x on [] a = tt
  all_behind x on (y ∷ ys) a =
      cond_both (stands_on s d y) (y.lot ∷ lots_of ys s d) (lots_of ys s d) (AllByRecursion (λ l. precedes d x.lot l ≡ true))
      (λ f. (side_precedes d x.lot y.lot x.number y.number (sym (ahead_on_side s d x y on f) ∙ a.0), all_behind x on ys a.1))
      (λ _. all_behind x on ys a.1)

  side_ranked : (n : ℕ) (xs : List PostedLot) → Sorted lot_ahead xs → AllByRecursion (Fit n) xs → Ranked d (lots_of xs s d)
  side_ranked n [] a f = tt
  side_ranked n (x ∷ xs) a f =
      cond_both (stands_on s d x) (x.lot ∷ lots_of xs s d) (lots_of xs s d) (Ranked d)
      (λ on. (f.0.lot, all_behind x on xs a.0, side_ranked n xs a.1 f.1))
      (λ _. side_ranked n xs a.1 f.1)

  side_listed : (n : ℕ) (xs : List PostedLot) → AllByRecursion (Fit n) xs → last_series < s → lots_of xs s d ≡ []
  side_listed n [] f h = refl
  side_listed n (x ∷ xs) f h =
      cond_both (stands_on s d x) (x.lot ∷ lots_of xs s d) (lots_of xs s d) (λ ls. ls ≡ [])
      (λ on. absurd (omega (arith, on_series s d x on, f.0.listed))) (λ _. side_listed n xs f.1 h)

pub sound_lawful : (xs : List PostedLot) (n : ℕ) → Sound xs n → Lawful (lots_of xs)
sound_lawful xs n z = record {
  ranked = λ s d. side_ranked s d n xs z.ranked z.fit;
  within = z.within;
  listed = λ s d. side_listed s d n xs z.fit;
}
