-- A lot that is withdrawn.
use Rattle.std.proofs.Common.{◌≡◌, ℕ, zero, suc, ◌≤◌, true, false, cond, eqb, List, [], ◌∷◌, ◌++◌, take, drop, is_some, Some, None, Option, sym, refl, ap, ◌∙◌, subst, inl, inr, add-one, arith, MatchOption}
use mathlib.Core.Logic.{∥∥₁_map}
use Rattle.std.specs.List.{slice_get, remove, AllByRecursion}
use Rattle.std.proofs.lemmas.List.{take-append-drop}
use Rattle.std.proofs.ByRecursion.{All-append, All-take, All-drop}
use Rattle.std.proofs.lemmas.Bool.{cond_both, cond-true, cond-false, cases_Bool, eq-eqb, ne_eqb, or_left, or_right, or_from, not_from_false}
use Rattle.simple.specs.declared.lot.Side.{Side}
use Rattle.simple.specs.declared.lot.Lot.{Lot}
use Rattle.simple.specs.Lots.{contracts}
use Rattle.ranked.specs.Ranking.{Absent, Standing}
use Rattle.ranked.specs.Laws.{LawfulRemoval}
use Rattle.lots.specs.declared.posted.PostedLot.{PostedLot}
use Rattle.lots.specs.Rank.{lot_ahead, lot_number}
use Rattle.depth.specs.Lots.{stands_on, lots_of, Fit, Sound}
use Rattle.depth.specs.Soundness.{sound_out}
use Rattle.depth.specs.Withdraw.{stands, without_lot, Withdrawn}
use Rattle.depth.proofs.Changes.{set_side, on_own, on_other}
use Rattle.depth.proofs.Takes.{drop_nth}

module _ (n : ℕ) where
  stands_not : (xs : List PostedLot) → Absent lot_number n xs → stands n xs ≡ false
  stands_not [] a = refl
  stands_not (x ∷ xs) a = or_from (eqb x.number n) (stands n xs) (ne_eqb x.number n a.0) (stands_not xs a.1)

  without_none : (xs : List PostedLot) → Absent lot_number n xs → without_lot n xs ≡ xs
  without_none [] a = refl
  without_none (x ∷ xs) a = cond-true _ _ _ (not_from_false (eqb x.number n) (ne_eqb x.number n a.0)) ∙ ap (λ ys. x ∷ ys) (without_none xs a.1)

  stands_at : (xs : List PostedLot) (i : ℕ) (x : PostedLot) → slice_get xs i ≡ Some x → x.number ≡ n → stands n xs ≡ true
  stands_at [] zero x at is = let z : ◌≡◌ {A = ℕ} 0 1 = cc in absurd (omega arith)
  stands_at [] (suc i) x at is = let z : ◌≡◌ {A = ℕ} 0 1 = cc in absurd (omega arith)
  stands_at (y ∷ ys) zero x at is = let same : y.number ≡ x.number = cc in or_left (eqb y.number n) (stands n ys) (eq-eqb y.number n (same ∙ is))
  stands_at (y ∷ ys) (suc i) x at is = or_right (eqb y.number n) (stands n ys) (stands_at ys i x at is)

  -- what the place of a number tells
  pub place_tells : (xs : List PostedLot) (r : Option ℕ) → MatchOption r (Absent lot_number n xs) (Standing lot_number n xs) → (is_some r ≡ stands n xs) × MatchOption r (without_lot n xs ≡ xs) (Standing lot_number n xs)
  place_tells xs None a = (sym (stands_not xs a), without_none xs a)
  place_tells xs (Some i) at = (sym (stands_at xs i at.0 at.1 at.2), at)

-- the lots of a side, of lists one behind the other
lots_append : (xs ys : List PostedLot) (s : ℕ) (d : Side) → lots_of (xs ++ ys) s d ≡ lots_of xs s d ++ lots_of ys s d
lots_append [] ys s d = refl
lots_append (x ∷ xs) ys s d =
    let more = lots_append xs ys s d in
    elim (cases_Bool (stands_on s d x)) [ inl o ↦ simp (o, more) | inr o ↦ simp (o, more) ]

contracts_fewer : (xs ys : List Lot) (l : Lot) → contracts (xs ++ ys) ≤ contracts (xs ++ l ∷ ys)
contracts_fewer [] ys l = omega arith
contracts_fewer (x ∷ xs) ys l = let h = contracts_fewer xs ys l in omega arith

-- x stands at a place and is removed
module _ (n : ℕ) (xs : List PostedLot) (i : ℕ) (x : PostedLot) (at : slice_get xs i ≡ Some x) (number : x.number ≡ n) where
  split : xs ≡ take i xs ++ x ∷ drop (suc i) xs
  split = sym (take-append-drop i xs) ∙ ap (λ ys. take i xs ++ ys) (drop_nth xs i x (sym at) ∙ ap (λ k. x ∷ drop k xs) (add-one i))

  with_x : (s : ℕ) (d : Side) → lots_of xs s d ≡ lots_of (take i xs) s d ++ lots_of (x ∷ drop (suc i) xs) s d
  with_x s d = ap (λ ys. lots_of ys s d) split ∙ lots_append (take i xs) (x ∷ drop (suc i) xs) s d

  -- the lots afterwards
  module _ (ys : List PostedLot) (r : Option PostedLot) (got : r ≡ slice_get xs i) (is : ys ≡ cond (is_some r) (remove xs i) xs) where
    left : ys ≡ take i xs ++ drop (suc i) xs
    left = is ∙ cond-true _ _ _ (ap is_some (got ∙ at))

    without_x : (s : ℕ) (d : Side) → lots_of ys s d ≡ lots_of (take i xs) s d ++ lots_of (drop (suc i) xs) s d
    without_x s d = ap (λ zs. lots_of zs s d) left ∙ lots_append (take i xs) (drop (suc i) xs) s d

    pub withdrawn : Withdrawn n xs ys
    withdrawn =
        record {
          gone = x;
          front = take i xs;
          back = drop (suc i) xs;
          number = number;
          stood = split;
          left = left;
          side = with_x x.series x.side ∙ ap (λ ls. lots_of (take i xs) x.series x.side ++ ls) (cond-true _ _ _ (on_own x));
          lists = set_side (lots_of xs) (lots_of ys) x.series x.side _ (without_x x.series x.side)
              (λ t e h. without_x t e ∙ sym (with_x t e ∙ ap (λ ls. lots_of (take i xs) t e ++ ls) (cond-false _ _ _ (on_other x.series x.side t e x h (on_own x)))));
        }

    module _ (laws : LawfulRemoval lot_ahead lot_number xs r ys) (posted : ℕ) where
      pub others_left : ∥ Sound xs posted ∥₁ → ys ≡ without_lot n xs
      others_left z = laws.others x (got ∙ at) (sound_out xs posted z).numbers ∙ ap (λ k. without_lot k xs) number

      fewer : (s : ℕ) (d : Side) → contracts (lots_of ys s d) ≤ contracts (lots_of xs s d)
      fewer s d =
          let front = lots_of (take i xs) s d in
          let back = lots_of (drop (suc i) xs) s d in
          let now = ap contracts (without_x s d) in
          let was = ap contracts (with_x s d) in
          let less : contracts (front ++ back) ≤ contracts (front ++ cond (stands_on s d x) (x.lot ∷ back) back) =
          cond_both (stands_on s d x) (x.lot ∷ back) back (λ ls. contracts (front ++ back) ≤ contracts (front ++ ls)) (λ _. contracts_fewer front back x.lot) (λ _. omega arith) in
          omega arith

      pub kept_left : ∥ Sound xs posted ∥₁ → ∥ Sound ys posted ∥₁
      kept_left z = ∥∥₁_map z (λ w.
          record {
            ranked = laws.sorted w.ranked;
            numbers = laws.distinct w.numbers;
            fit = subst (AllByRecursion (Fit posted)) (sym left) (All-append (Fit posted) (take i xs) (drop (suc i) xs) (All-take (Fit posted) i xs w.fit) (All-drop (Fit posted) (suc i) xs w.fit));
            within = λ s d. let h = fewer s d in let k = w.within s d in omega arith;
          })
