-- What a take moves, of lots that stand in rank.
use Rattle.std.proofs.Common.{◌≡◌, ℕ, suc, ◌+◌, ◌-◌, ◌≤◌, true, false, List, [], ◌∷◌, ◌++◌, take, drop, Ok, sym, refl, ap, ◌∙◌, subst, inl, inr, one-add, arith}
use Rattle.std.specs.List.{prefix_len, AllByRecursion}
use Rattle.std.proofs.lemmas.List.{take-append-drop}
use Rattle.std.proofs.lemmas.Bool.{cond-true, cond-false, cases_Bool, cases_lt, lt-ltb, le-ltb}
use Rattle.simple.specs.declared.lot.Side.{Side}
use Rattle.simple.specs.Lots.{Lots, contracts}
use Rattle.simple.specs.Take.{take_answer}
use Rattle.simple.specs.TakeMoved.{take_within, best_within}
use Rattle.ranked.specs.Ranking.{Sorted}
use Rattle.lots.specs.declared.posted.PostedLot.{PostedLot}
use Rattle.lots.specs.Rank.{lot_ahead}
use Rattle.depth.specs.Lots.{stands_on, lots_of, all_lots}
use Rattle.depth.specs.Running.{stands_before}
use Rattle.depth.specs.Take.{reduced, take_lots, Reduced, Taken}
use Rattle.depth.proofs.Runs.{before_is_off, all_off, none_on}
use Rattle.depth.proofs.Takes.{unchanged, sorted_drop, from_start, start_none}

-- a take that is accepted finds its quantity on the side
pub within_side : (b : Lots) (s : ℕ) (d : Side) (q : ℕ) → Ok tt ≡ take_answer b s d q → q ≤ contracts (b s d)
within_side b s d q h =
    let best = take_within b s d q h in
    let all = best_within (b s d) in
    omega arith

module _ (s : ℕ) (d : Side) where
  -- from the first lot of the side on
  record Moved (q : ℕ) (xs : List PostedLot) : Type 0 where
    gone : List PostedLot
    behind : List PostedLot
    stood : xs ≡ gone ++ behind
    own : AllByRecursion (λ x. stands_on s d x ≡ true) gone
    whole : contracts (all_lots gone) ≤ q
    rest : Reduced s d (q - contracts (all_lots gone)) behind (take_lots s d q xs)

  moved : (q : ℕ) (xs : List PostedLot) → Sorted lot_ahead xs → AllByRecursion (λ x. stands_before s d x ≡ false) xs → q ≤ contracts (lots_of xs s d) → Moved q xs
  moved q [] a n le = record { gone = []; behind = []; stood = refl; own = tt; whole = omega arith; rest = (omega arith, refl) }
  moved q (x ∷ xs) a n le =
      elim (cases_Bool (stands_on s d x)) [
        | inl on ↦ elim (cases_lt q x.lot.size) [
          | inl lt ↦
              let none : q ≡ q - 0 = omega arith in
              let is : take_lots s d q (x ∷ xs) ≡ reduced x (x.lot.size - q) ∷ xs = cond-true _ _ _ on ∙ cond-true _ _ _ (lt-ltb q x.lot.size lt) in
              record { gone = []; behind = x ∷ xs; stood = refl; own = tt; whole = omega arith; rest = inr (on, omega arith, is ∙ ap (λ k. reduced x (x.lot.size - k) ∷ xs) none) }
          | inr ge ↦
              let mine : lots_of (x ∷ xs) s d ≡ x.lot ∷ lots_of xs s d = cond-true _ _ _ on in
              let is : take_lots s d q (x ∷ xs) ≡ take_lots s d (q - x.lot.size) xs = cond-true _ _ _ on ∙ cond-false _ _ _ (le-ltb q x.lot.size ge) in
              let sum = ap contracts mine in
              let more = moved (q - x.lot.size) xs a.1 n.1 (omega arith) in
              let whole = more.whole in
              let both : q - x.lot.size - contracts (all_lots more.gone) ≡ q - (x.lot.size + contracts (all_lots more.gone)) = omega arith in
              record {
                gone = x ∷ more.gone;
                behind = more.behind;
                stood = ap (λ ys. x ∷ ys) more.stood;
                own = (on, more.own);
                whole = omega arith;
                rest = subst (λ (ys : List PostedLot). Reduced s d (q - (x.lot.size + contracts (all_lots more.gone))) more.behind ys) (sym is)
                    (subst (λ k. Reduced s d k more.behind (take_lots s d (q - x.lot.size) xs)) both more.rest);
              }
        ]
        | inr off ↦
            let all : AllByRecursion (λ y. stands_on s d y ≡ false) (x ∷ xs) = (off, all_off s d x n.0 off xs a.0) in
            let none = ap contracts (none_on s d (x ∷ xs) all) in
            record { gone = []; behind = x ∷ xs; stood = refl; own = tt; whole = omega arith; rest = inl (omega arith, unchanged s d q (x ∷ xs) all) }
      ]

  front_off : (xs : List PostedLot) → AllByRecursion (λ x. stands_on s d x ≡ false) (take (prefix_len (stands_before s d) xs) xs)
  front_off [] = tt
  front_off (x ∷ xs) =
      elim (cases_Bool (stands_before s d x)) [
        | inl b ↦
            let count : prefix_len (stands_before s d) (x ∷ xs) ≡ suc (prefix_len (stands_before s d) xs) = cond-true _ _ _ b ∙ one-add (prefix_len (stands_before s d) xs) in
            subst (λ k. AllByRecursion (λ y. stands_on s d y ≡ false) (take k (x ∷ xs))) (sym count) (before_is_off s d x b, front_off xs)
        | inr b ↦
            let count : prefix_len (stands_before s d) (x ∷ xs) ≡ 0 = cond-false _ _ _ b in
            subst (λ k. AllByRecursion (λ y. stands_on s d y ≡ false) (take k (x ∷ xs))) (sym count) tt
      ]

  off_append : (xs ys : List PostedLot) → AllByRecursion (λ x. stands_on s d x ≡ false) xs → lots_of (xs ++ ys) s d ≡ lots_of ys s d
  off_append [] ys a = refl
  off_append (x ∷ xs) ys a = cond-false _ _ _ a.0 ∙ off_append xs ys a.1

  pub taken_from : (q : ℕ) (xs : List PostedLot) → Sorted lot_ahead xs → q ≤ contracts (lots_of xs s d) → Taken s d q xs (take_lots s d q xs)
  taken_from q xs a le =
      let k = prefix_len (stands_before s d) xs in
      let split : take k xs ++ drop k xs ≡ xs = take-append-drop k xs in
      let side : lots_of xs s d ≡ lots_of (drop k xs) s d = ap (λ ys. lots_of ys s d) (sym split) ∙ off_append (take k xs) (drop k xs) (front_off xs) in
      let same = ap contracts side in
      let m = moved q (drop k xs) (sorted_drop s d k xs a) (start_none s d xs a) (omega arith) in
      record {
        before = take k xs;
        gone = m.gone;
        behind = m.behind;
        left = take_lots s d q (drop k xs);
        stood = sym split ∙ ap (λ ys. take k xs ++ ys) m.stood;
        stand = from_start s d q xs;
        front = front_off xs;
        own = m.own;
        whole = m.whole;
        rest = m.rest;
      }
