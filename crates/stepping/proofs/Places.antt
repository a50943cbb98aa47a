-- The order of a number, by the place at which it is found.
use Rattle.std.proofs.Common.{◌≡◌, ℕ, suc, ◌<◌, ◌≤◌, Bool, true, false, cond, eqb, ltb, List, [], ◌∷◌, set, is_some, Some, None, Option, sym, refl, ap, ◌∙◌}
use Rattle.std.specs.List.{slice_get, remove}
use Rattle.std.specs.Option.{option_map}
use Rattle.std.proofs.lemmas.Bool.{cond-true, cond-false, lt-ltb, le-ltb}
use Rattle.ranked.specs.Ranking.{place_with, Standing}
use Rattle.rules.specs.declared.order.Order.{Order}
use Rattle.rules.specs.Orders.{order_number, less, reduced, dropped, order_with}

abbrev pub place_in : ℕ → List Order → Option ℕ
place_in n os = place_with order_number n os

-- what is done with the order at a place
abbrev less_at : ℕ → List Order → ℕ → Option Order → List Order
less_at q os i None = os
less_at q os i (Some o) = cond (ltb q o.quantity) (set os i (less q o)) (remove os i)

abbrev reduced_by : ℕ → Option ℕ → List Order → List Order
reduced_by q None os = os
reduced_by q (Some i) os = less_at q os i (slice_get os i)

abbrev dropped_by : Option ℕ → List Order → List Order
dropped_by None os = os
dropped_by (Some i) os = remove os i

abbrev with_by : Option ℕ → List Order → Option Order
with_by None os = None
with_by (Some i) os = slice_get os i

module _ (n : ℕ) where
  reduced_so : (q : ℕ) (os : List Order) → reduced n q os ≡ reduced_by q (place_in n os) os
  unfolding reduced
  reduced_so q [] = refl
  reduced_so q (x ∷ os) = go (eqb x.number n) (place_in n os) (reduced_so q os)
    where
      along : (j : ℕ) (o : Option Order) → x ∷ less_at q os j o ≡ less_at q (x ∷ os) (suc j) o
      along j None = refl
      along j (Some o) = split (ltb q o.quantity)
        where
          split : (u : Bool) → x ∷ cond u (set os j (less q o)) (remove os j) ≡ cond u (set (x ∷ os) (suc j) (less q o)) (remove (x ∷ os) (suc j))
          split true = refl
          split false = refl

      go : (t : Bool) (p : Option ℕ) → reduced n q os ≡ reduced_by q p os → cond t (cond (ltb q x.quantity) (less q x ∷ os) os) (x ∷ reduced n q os) ≡ reduced_by q (cond t (Some 0) (option_map suc p)) (x ∷ os)
      go true p e = refl
      go false None e = ap (λ ys. x ∷ ys) e
      go false (Some j) e = ap (λ ys. x ∷ ys) e ∙ along j (slice_get os j)

  dropped_so : (os : List Order) → dropped n os ≡ dropped_by (place_in n os) os
  unfolding dropped
  dropped_so [] = refl
  dropped_so (x ∷ os) = go (eqb x.number n) (place_in n os) (dropped_so os)
    where
      go : (t : Bool) (p : Option ℕ) → dropped n os ≡ dropped_by p os → cond t os (x ∷ dropped n os) ≡ dropped_by (cond t (Some 0) (option_map suc p)) (x ∷ os)
      go true p e = refl
      go false None e = ap (λ ys. x ∷ ys) e
      go false (Some j) e = ap (λ ys. x ∷ ys) e

  with_so : (os : List Order) → order_with n os ≡ with_by (place_in n os) os
  unfolding order_with
  with_so [] = refl
  with_so (x ∷ os) = go (eqb x.number n) (place_in n os) (with_so os)
    where
      go : (t : Bool) (p : Option ℕ) → order_with n os ≡ with_by p os → cond t (Some x) (order_with n os) ≡ with_by (cond t (Some 0) (option_map suc p)) (x ∷ os)
      go true p e = refl
      go false None e = e
      go false (Some j) e = e

  -- no order has the number
  module _ (os : List Order) (none : None ≡ place_in n os) where
    pub reduced_none : (q : ℕ) → os ≡ reduced n q os
    reduced_none q = sym (reduced_so q os ∙ ap (λ p. reduced_by q p os) (sym none))

    pub dropped_none : os ≡ dropped n os
    dropped_none = sym (dropped_so os ∙ ap (λ p. dropped_by p os) (sym none))

    pub with_none : None ≡ order_with n os
    with_none = sym (with_so os ∙ ap (λ p. with_by p os) (sym none))

  -- the first that has it stands at a place
  module _ (os : List Order) (i : ℕ) (found : Some i ≡ place_in n os) where
    pub dropped_at : remove os i ≡ dropped n os
    dropped_at = sym (dropped_so os ∙ ap (λ p. dropped_by p os) (sym found))

    pub with_at : slice_get os i ≡ order_with n os
    with_at = sym (with_so os ∙ ap (λ p. with_by p os) (sym found))

    -- a removal there
    pub dropped_there : (r : Option Order) (left : List Order) → r ≡ slice_get os i → Standing order_number n os i → left ≡ cond (is_some r) (remove os i) os → left ≡ dropped n os
    dropped_there r left is stands e =
        let some : is_some r ≡ true = ap is_some (is ∙ stands.1) in
        e ∙ cond-true (is_some r) (remove os i) os some ∙ dropped_at

    module _ (q : ℕ) (o : Order) (is : Some o ≡ slice_get os i) where
      whole : reduced n q os ≡ cond (ltb q o.quantity) (set os i (less q o)) (remove os i)
      whole = reduced_so q os ∙ ap (λ p. reduced_by q p os) (sym found) ∙ ap (less_at q os i) (sym is)

      pub reduced_less : q < o.quantity → set os i (less q o) ≡ reduced n q os
      reduced_less h = sym (whole ∙ cond-true (ltb q o.quantity) _ _ (lt-ltb q o.quantity h))

      pub reduced_out : o.quantity ≤ q → remove os i ≡ reduced n q os
      reduced_out h = sym (whole ∙ cond-false (ltb q o.quantity) _ _ (le-ltb q o.quantity h))
