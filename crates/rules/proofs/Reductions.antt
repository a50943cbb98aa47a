-- What it does to the orders at rest that one has less, or is gone.
use Rattle.std.proofs.Common.{◌≡◌, ℕ, ◌+◌, ◌-◌, ◌<◌, ◌≤◌, true, cond, eqb, ltb, List, [], ◌∷◌, sym, refl, ap, ◌∙◌, inl, inr, arith}
use Rattle.std.specs.List.{AllByRecursion}
use Rattle.std.proofs.ByRecursion.{All-weaker}
use Rattle.std.proofs.lemmas.Bool.{cases_eq, cond-true, cond-false, cond_both, eq-eqb, ne_eqb, eqb-true, eqb-false, ltb-true, ltb-false}
use Rattle.ranked.specs.Ranking.{Pairwise, Absent}
use Rattle.rules.specs.declared.order.Order.{Order}
use Rattle.rules.specs.Orders.{order_ahead, order_number, less, reduced, dropped, quantity_in, left_of}
use Rattle.rules.proofs.Ready.{Ready}
use Rattle.rules.proofs.Accounts.{Stem, Stems, stems_from_all, all_stem, with_here, with_past, left_absent}

-- what relates a list to what it becomes: nothing, one order less, one order gone, or the same behind the first
module _ (n q : ℕ) (P : List Order → List Order → Type 0)
    (none : P [] [])
    (part : (o : Order) (os : List Order) → o.number ≡ n → q < o.quantity → P (o ∷ os) (less q o ∷ os))
    (whole : (o : Order) (os : List Order) → o.number ≡ n → o.quantity ≤ q → P (o ∷ os) os)
    (past : (o : Order) (os later : List Order) → (o.number ≡ n → ⊥) → P os later → P (o ∷ os) (o ∷ later)) where
  reduced_rule : (os : List Order) → P os (reduced n q os)
  unfolding reduced
  reduced_rule [] = none
  reduced_rule (o ∷ os) =
      cond_both (eqb o.number n) (cond (ltb q o.quantity) (less q o ∷ os) os) (o ∷ reduced n q os) (P (o ∷ os))
      (λ e. cond_both (ltb q o.quantity) (less q o ∷ os) os (P (o ∷ os))
      (λ f. part o os (eqb-true o.number n e) (ltb-true q o.quantity f))
      (λ f. whole o os (eqb-true o.number n e) (ltb-false q o.quantity f)))
      (λ e. past o os (reduced n q os) (eqb-false o.number n e) (reduced_rule os))

module _ (n : ℕ) (P : List Order → List Order → Type 0)
    (none : P [] [])
    (here : (o : Order) (os : List Order) → o.number ≡ n → P (o ∷ os) os)
    (past : (o : Order) (os later : List Order) → (o.number ≡ n → ⊥) → P os later → P (o ∷ os) (o ∷ later)) where
  dropped_rule : (os : List Order) → P os (dropped n os)
  unfolding dropped
  dropped_rule [] = none
  dropped_rule (o ∷ os) =
      cond_both (eqb o.number n) os (o ∷ dropped n os) (P (o ∷ os))
      (λ e. here o os (eqb-true o.number n e))
      (λ e. past o os (dropped n os) (eqb-false o.number n e) (dropped_rule os))

-- what holds of each order, and of one with less, holds of each afterwards
all_reduced : (n q : ℕ) (Q : Order → Type 0) → ((o : Order) → q < o.quantity → Q o → Q (less q o)) → (os : List Order) → AllByRecursion Q os → AllByRecursion Q (reduced n q os)
all_reduced n q Q so os =
    reduced_rule n q (λ xs ys. AllByRecursion Q xs → AllByRecursion Q ys)
    (λ _. tt)
    (λ o os _ lt a. (so o lt a.0, a.1))
    (λ o os _ _ a. a.1)
    (λ o os later _ ih a. (a.0, ih a.1))
    os

all_dropped : (n : ℕ) (Q : Order → Type 0) (os : List Order) → AllByRecursion Q os → AllByRecursion Q (dropped n os)
all_dropped n Q os = dropped_rule n (λ xs ys. AllByRecursion Q xs → AllByRecursion Q ys) (λ _. tt) (λ o os _ a. a.1) (λ o os later _ ih a. (a.0, ih a.1)) os

-- so do what the orders are to one another
module _ (n : ℕ) (R : Order → Order → Type 0) where
  pairwise_reduced : (q : ℕ) → ((x o : Order) → R x o → R x (less q o)) → ((o x : Order) → R o x → R (less q o) x) → (os : List Order) → Pairwise R os → Pairwise R (reduced n q os)
  unfolding reduced
  pairwise_reduced q to from [] p = tt
  pairwise_reduced q to from (o ∷ os) p =
      cond_both (eqb o.number n) (cond (ltb q o.quantity) (less q o ∷ os) os) (o ∷ reduced n q os) (Pairwise R)
      (λ _. cond_both (ltb q o.quantity) (less q o ∷ os) os (Pairwise R) (λ _. (All-weaker (R o) (R (less q o)) (from o) os p.0, p.1)) (λ _. p.1))
      (λ _. (all_reduced n q (R o) (λ x _. to o x) os p.0, pairwise_reduced q to from os p.1))

  pairwise_dropped : (os : List Order) → Pairwise R os → Pairwise R (dropped n os)
  unfolding dropped
  pairwise_dropped [] p = tt
  pairwise_dropped (o ∷ os) p =
      cond_both (eqb o.number n) os (o ∷ dropped n os) (Pairwise R)
      (λ _. p.1)
      (λ _. (all_dropped n (R o) os p.0, pairwise_dropped os p.1))

pub ready_reduced : (n q : ℕ) (os : List Order) → Ready os → Ready (reduced n q os)
ready_reduced n q os ready = record {
  sorted = pairwise_reduced n (λ x y. order_ahead x y ≡ true) q (λ x o h. h) (λ o x h. h) os ready.sorted;
  distinct = pairwise_reduced n (λ x y. order_number x ≡ order_number y → ⊥) q (λ x o h. h) (λ o x h. h) os ready.distinct;
  some = all_reduced n q (λ o. 1 ≤ o.quantity) (λ o lt _. omega arith) os ready.some;
  numbered = all_reduced n q (λ o. 1 ≤ o.number) (λ o _ h. h) os ready.numbered;
}

pub ready_dropped : (n : ℕ) (os : List Order) → Ready os → Ready (dropped n os)
ready_dropped n os ready = record {
  sorted = pairwise_dropped n (λ x y. order_ahead x y ≡ true) os ready.sorted;
  distinct = pairwise_dropped n (λ x y. order_number x ≡ order_number y → ⊥) os ready.distinct;
  some = all_dropped n (λ o. 1 ≤ o.quantity) os ready.some;
  numbered = all_dropped n (λ o. 1 ≤ o.number) os ready.numbered;
}

pub stems_reduced : (n q : ℕ) (os : List Order) → Stems os (reduced n q os)
stems_reduced n q os =
    stems_from_all os (reduced n q os)
    (all_reduced n q (Stem os)
    (λ o _ h. (h.0, h.1, record { strategy = h.2.strategy; buy = h.2.buy; limit = h.2.limit; number = h.2.number }))
    os (all_stem os))

pub stems_dropped : (n : ℕ) (os : List Order) → Stems os (dropped n os)
stems_dropped n os = stems_from_all os (dropped n os) (all_dropped n (Stem os) os (all_stem os))

-- what is left, one place after the other
pub left_here : (n : ℕ) (o : Order) (os : List Order) → o.number ≡ n → left_of n (o ∷ os) ≡ o.quantity
left_here n o os e = ap quantity_in (with_here n o os e)

pub left_past : (n : ℕ) (o : Order) (os : List Order) → (o.number ≡ n → ⊥) → left_of n (o ∷ os) ≡ left_of n os
left_past n o os ne = ap quantity_in (with_past n o os ne)

-- behind the order of a number no other has it
none_behind : (n : ℕ) (o : Order) (os : List Order) → o.number ≡ n → AllByRecursion (λ y. o.number ≡ y.number → ⊥) os → Absent order_number n os
none_behind n o os e = All-weaker (λ y. o.number ≡ y.number → ⊥) (λ y. y.number ≡ n → ⊥) (λ y ne same. ne (e ∙ sym same)) os

-- two lists in which as much is left of an order, behind one that may have its number
pub left_behind : (m : ℕ) (o : Order) (os later : List Order) → left_of m later ≡ left_of m os → left_of m (o ∷ later) ≡ left_of m (o ∷ os)
left_behind m o os later same =
    elim (cases_eq o.number m) [
      | inl e ↦ left_here m o later e ∙ sym (left_here m o os e)
      | inr ne ↦ left_past m o later ne ∙ same ∙ sym (left_past m o os ne)
    ]

pub left_reduced_same : (n q : ℕ) (os : List Order) → Ready os → left_of n (reduced n q os) ≡ left_of n os - q
left_reduced_same n q os ready =
    reduced_rule n q (λ xs ys. Pairwise (λ x y. order_number x ≡ order_number y → ⊥) xs → left_of n ys ≡ left_of n xs - q)
    (λ _. omega (arith, left_absent n [] tt))
    (λ o os e lt d. left_here n (less q o) os e ∙ ap (λ k. k - q) (sym (left_here n o os e)))
    (λ o os e le d. omega (arith, left_absent n os (none_behind n o os e d.0), left_here n o os e))
    (λ o os later ne ih d. left_past n o later ne ∙ ih d.1 ∙ ap (λ k. k - q) (sym (left_past n o os ne)))
    os ready.distinct

pub left_reduced_other : (n q m : ℕ) (os : List Order) → (n ≡ m → ⊥) → left_of m (reduced n q os) ≡ left_of m os
left_reduced_other n q m os ne =
    reduced_rule n q (λ xs ys. left_of m ys ≡ left_of m xs)
    refl
    (λ o os e _. left_past m (less q o) os (λ same. ne (sym e ∙ same)) ∙ sym (left_past m o os (λ same. ne (sym e ∙ same))))
    (λ o os e _. sym (left_past m o os (λ same. ne (sym e ∙ same))))
    (λ o os later _ ih. left_behind m o os later ih)
    os

pub left_dropped_same : (n : ℕ) (os : List Order) → Ready os → left_of n (dropped n os) ≡ 0
left_dropped_same n os ready =
    dropped_rule n (λ xs ys. Pairwise (λ x y. order_number x ≡ order_number y → ⊥) xs → left_of n ys ≡ 0)
    (λ _. left_absent n [] tt)
    (λ o os e d. left_absent n os (none_behind n o os e d.0))
    (λ o os later ne ih d. left_past n o later ne ∙ ih d.1)
    os ready.distinct

pub left_dropped_other : (n m : ℕ) (os : List Order) → (n ≡ m → ⊥) → left_of m (dropped n os) ≡ left_of m os
left_dropped_other n m os ne =
    dropped_rule n (λ xs ys. left_of m ys ≡ left_of m xs)
    refl
    (λ o os e. sym (left_past m o os (λ same. ne (sym e ∙ same))))
    (λ o os later _ ih. left_behind m o os later ih)
    os

-- of the order of a number q is gone, if it has q, and of the others nothing
pub left_reduced : (n q m : ℕ) (os : List Order) → Ready os → q ≤ left_of n os → left_of m os ≡ cond (eqb n m) q 0 + left_of m (reduced n q os)
left_reduced n q m os ready enough =
    elim (cases_eq n m) [
      | inl e ↦
          let t : cond (eqb n m) q 0 ≡ q = cond-true (eqb n m) q 0 (eq-eqb n m e) in
          let all : left_of m os ≡ left_of n os = ap (λ k. left_of k os) (sym e) in
          let rest : left_of m (reduced n q os) ≡ left_of n os - q = ap (λ k. left_of k (reduced n q os)) (sym e) ∙ left_reduced_same n q os ready in
          omega arith
      | inr ne ↦
          let t : cond (eqb n m) q 0 ≡ 0 = cond-false (eqb n m) q 0 (ne_eqb n m ne) in
          let rest : left_of m (reduced n q os) ≡ left_of m os = left_reduced_other n q m os ne in
          omega arith
    ]
