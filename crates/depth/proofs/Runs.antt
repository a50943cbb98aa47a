-- The lots of one side stand together.
use Rattle.std.proofs.Common.{◌≡◌, ℕ, ◌<◌, ◌≤◌, Bool, true, false, not, ◌&&◌, ◌||◌, eqb, ltb, List, [], ◌∷◌, ◌++◌, pos, refl, ap, ◌∙◌, inl, inr, arith}
use Rattle.std.specs.List.{AllByRecursion}
use Rattle.std.proofs.lemmas.Int.{ints}
use Rattle.std.proofs.lemmas.Bool.Decides.{nat_tests}
use Rattle.std.proofs.lemmas.Bool.{cond-true, cond-false, cases_Bool, both_ways}
use Rattle.std.proofs.ByRecursion.{All-weaker}
use Rattle.simple.specs.declared.lot.Side.{Side}
use Rattle.simple.specs.declared.lot.Side.TheVariants.{Bid, Offer}
use Rattle.simple.specs.Lots.{same_side}
use Rattle.ranked.specs.Lex.{lex, first_if}
use Rattle.ranked.specs.Ranking.{Pairwise, Sorted}
use Rattle.lots.specs.declared.posted.PostedLot.{PostedLot}
use Rattle.lots.specs.Rank.{is_bid, lot_ahead}
use Rattle.depth.specs.Lots.{stands_on, lots_of, all_lots}
use Rattle.depth.specs.Running.{stands_before}

-- what the first two keys say
lower : (a b : ℕ) (p q next : Bool) → lex (pos a) (pos b) (lex (first_if p) (first_if q) next) ≡ true → a ≤ b
lower a b p q next h = grind (arith, ints)

bids_first : (a b : ℕ) (next : Bool) → lex (pos a) (pos b) (lex (first_if false) (first_if true) next) ≡ true → a < b
bids_first a b next h = grind (arith, ints)

module _ (s : ℕ) where
  abbrev before : Side → ℕ → Side → Bool
  before d a e = ltb a s || (eqb a s && (is_bid e && not (is_bid d)))

  abbrev on : Side → ℕ → Side → Bool
  on d a e = eqb a s && same_side e d

  past : (d : Side) (a b : ℕ) (e f : Side) (next : Bool) → lex (pos a) (pos b) (lex (first_if (is_bid e)) (first_if (is_bid f)) next) ≡ true → before d a e ≡ false → before d b f ≡ false
  past Bid a b e f next h n = let le = lower a b (is_bid e) (is_bid f) next h in grind (arith, nat_tests)
  past Offer a b Bid Bid next h n = let le = lower a b true true next h in grind (arith, nat_tests)
  past Offer a b Bid Offer next h n = let le = lower a b true false next h in grind (arith, nat_tests)
  past Offer a b Offer Bid next h n = let lt = bids_first a b next h in grind (arith, nat_tests)
  past Offer a b Offer Offer next h n = let le = lower a b false false next h in grind (arith, nat_tests)

  off : (d : Side) (a b : ℕ) (e f : Side) (next : Bool) → lex (pos a) (pos b) (lex (first_if (is_bid e)) (first_if (is_bid f)) next) ≡ true → before d a e ≡ false → on d a e ≡ false → on d b f ≡ false
  off Bid a b Bid Bid next h n o = let le = lower a b true true next h in grind (arith, nat_tests)
  off Bid a b Bid Offer next h n o = let le = lower a b true false next h in grind (arith, nat_tests)
  off Bid a b Offer Bid next h n o = let lt = bids_first a b next h in grind (arith, nat_tests)
  off Bid a b Offer Offer next h n o = let le = lower a b false false next h in grind (arith, nat_tests)
  off Offer a b Bid Bid next h n o = let le = lower a b true true next h in grind (arith, nat_tests)
  off Offer a b Bid Offer next h n o = let le = lower a b true false next h in grind (arith, nat_tests)
  off Offer a b Offer Bid next h n o = let lt = bids_first a b next h in grind (arith, nat_tests)
  off Offer a b Offer Offer next h n o = let le = lower a b false false next h in grind (arith, nat_tests)

  before_off : (d : Side) (a : ℕ) (e : Side) → before d a e ≡ true → on d a e ≡ false
  before_off Bid a Bid h = grind (arith, nat_tests)
  before_off Bid a Offer h = grind (arith, nat_tests)
  before_off Offer a Bid h = grind (arith, nat_tests)
  before_off Offer a Offer h = grind (arith, nat_tests)

module _ (s : ℕ) (d : Side) where
  -- behind a lot that does not stand before the side, none does
  all_past : (x : PostedLot) → stands_before s d x ≡ false → (ys : List PostedLot) → AllByRecursion (λ y. lot_ahead x y ≡ true) ys → AllByRecursion (λ y. stands_before s d y ≡ false) ys
  all_past x n = All-weaker (λ y. lot_ahead x y ≡ true) (λ y. stands_before s d y ≡ false) (λ y h. past s d x.series y.series x.side y.side _ h n)

  -- behind a lot that stands behind the side, none stands on it
  pub all_off : (x : PostedLot) → stands_before s d x ≡ false → stands_on s d x ≡ false → (ys : List PostedLot) → AllByRecursion (λ y. lot_ahead x y ≡ true) ys → AllByRecursion (λ y. stands_on s d y ≡ false) ys
  all_off x n o = All-weaker (λ y. lot_ahead x y ≡ true) (λ y. stands_on s d y ≡ false) (λ y h. off s d x.series y.series x.side y.side _ h n o)

  pub no_more_before : (x : PostedLot) (xs : List PostedLot) → stands_before s d x ≡ false → Sorted lot_ahead (x ∷ xs) → AllByRecursion (λ y. stands_before s d y ≡ false) (x ∷ xs)
  no_more_before x xs n a = (n, all_past x n xs a.0)

  pub before_is_off : (x : PostedLot) → stands_before s d x ≡ true → stands_on s d x ≡ false
  before_is_off x h = before_off s d x.series x.side h

  pub none_on : (xs : List PostedLot) → AllByRecursion (λ y. stands_on s d y ≡ false) xs → lots_of xs s d ≡ []
  none_on [] a = refl
  none_on (x ∷ xs) a = cond-false _ _ _ a.0 ∙ none_on xs a.1

  pub all_on : (xs : List PostedLot) → AllByRecursion (λ y. stands_on s d y ≡ true) xs → lots_of xs s d ≡ all_lots xs
  all_on [] a = refl
  all_on (x ∷ xs) a = cond-true _ _ _ a.0 ∙ ap (λ ls. x.lot ∷ ls) (all_on xs a.1)

  pub lots_append : (xs ys : List PostedLot) → lots_of (xs ++ ys) s d ≡ lots_of xs s d ++ lots_of ys s d
  lots_append [] ys = refl
  lots_append (x ∷ xs) ys =
      let more = lots_append xs ys in
      elim (cases_Bool (stands_on s d x)) [ inl e ↦ simp (e, more) | inr e ↦ simp (e, more) ]

  -- the lots that stand before the side are the first ones
  pub before_first : (xs : List PostedLot) → Sorted lot_ahead xs → Pairwise (λ x y. stands_before s d y ≡ true → stands_before s d x ≡ true) xs
  before_first [] a = tt
  before_first (x ∷ xs) a = (
    All-weaker (λ y. lot_ahead x y ≡ true) (λ y. stands_before s d y ≡ true → stands_before s d x ≡ true)
        (λ y h up. elim (cases_Bool (stands_before s d x)) [ inl e ↦ e | inr e ↦ absurd (both_ways _ (past s d x.series y.series x.side y.side _ h e) up) ]) xs a.0,
    before_first xs a.1,
  )

  -- and of those behind them the ones that stand on it
  pub on_first : (xs : List PostedLot) → Sorted lot_ahead xs → AllByRecursion (λ y. stands_before s d y ≡ false) xs → Pairwise (λ x y. stands_on s d y ≡ true → stands_on s d x ≡ true) xs
  on_first [] a n = tt
  on_first (x ∷ xs) a n = (
    All-weaker (λ y. lot_ahead x y ≡ true) (λ y. stands_on s d y ≡ true → stands_on s d x ≡ true)
        (λ y h up. elim (cases_Bool (stands_on s d x)) [ inl e ↦ e | inr e ↦ absurd (both_ways _ (off s d x.series y.series x.side y.side _ h n.0 e) up) ]) xs a.0,
    on_first xs a.1 n.1,
  )
