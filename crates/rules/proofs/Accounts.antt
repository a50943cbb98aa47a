-- What is left of an order among those at rest, and which orders others stem from.
use Rattle.std.proofs.Common.{◌≡◌, ℕ, ◌≤◌, eqb, List, [], ◌∷◌, Some, None, Option, sym, refl, ap, ◌∙◌, subst, arith, MatchOption}
use Rattle.std.specs.List.{ContainsAt as Has, AllByRecursion}
use Rattle.std.proofs.ByRecursion.{all-has, All-weaker, all_has_itself, has_append_right}
use Rattle.std.proofs.lemmas.Bool.{cond-true, cond-false, cond_both, eq-eqb, ne_eqb, eqb-true, eqb-false}
use Rattle.ranked.specs.Ranking.{Distinct, Absent}
use Rattle.rules.specs.declared.order.Order.{Order}
use Rattle.rules.specs.Orders.{order_number, order_with, quantity_in, left_of}
use Rattle.rules.proofs.Ready.{Ready}

-- one order, whatever is left of it
pub record Same (p o : Order) : Type 0 where
  pub strategy : p.strategy ≡ o.strategy
  pub buy : p.buy ≡ o.buy
  pub limit : p.limit ≡ o.limit
  pub number : p.number ≡ o.number

pub same_refl : (o : Order) → Same o o
same_refl o = record { strategy = refl; buy = refl; limit = refl; number = refl }

pub same_trans : (o p r : Order) → Same o p → Same p r → Same o r
same_trans o p r a b = record {
  strategy = a.strategy ∙ b.strategy;
  buy = a.buy ∙ b.buy;
  limit = a.limit ∙ b.limit;
  number = a.number ∙ b.number;
}

-- an order stems from one of these
abbrev pub Stem : List Order → Order → Type 0
Stem os o = (p : Order) × Has os p × Same p o

-- each of the later orders was one of the earlier
abbrev pub Stems : List Order → List Order → Type 0
Stems os later = (o : Order) → Has later o → (p : Order) × Has os p × Same p o

pub stems_from_all : (os later : List Order) → AllByRecursion (Stem os) later → Stems os later
stems_from_all os later a o h = all-has (Stem os) later o a h

pub all_stem : (os : List Order) → AllByRecursion (Stem os) os
all_stem os = All-weaker (Has os) (Stem os) (λ o h. (o, h, same_refl o)) os (all_has_itself os)

pub stems_refl : (os : List Order) → Stems os os
stems_refl os o h = (o, h, same_refl o)

pub stems_trans : (xs ys zs : List Order) → Stems xs ys → Stems ys zs → Stems xs zs
stems_trans xs ys zs f g o h =
    let y = g o h in
    let x = f y.0 y.1 in
    (x.0, x.1, same_trans x.0 y.0 o x.2 y.2)

-- an order stands first or later
pub has_first : (o : Order) (os : List Order) → Has (o ∷ os) o
has_first o os = (0, omega arith, λ _. refl)

pub has_later : (x : Order) (os : List Order) (o : Order) → Has os o → Has (x ∷ os) o
has_later x os o h = has_append_right (x ∷ []) os o h

-- the order of a number, one place after the other
pub with_here : (n : ℕ) (o : Order) (os : List Order) → o.number ≡ n → order_with n (o ∷ os) ≡ Some o
unfolding order_with
with_here n o os e = cond-true (eqb o.number n) (Some o) (order_with n os) (eq-eqb o.number n e)

pub with_past : (n : ℕ) (o : Order) (os : List Order) → (o.number ≡ n → ⊥) → order_with n (o ∷ os) ≡ order_with n os
unfolding order_with
with_past n o os ne = cond-false (eqb o.number n) (Some o) (order_with n os) (ne_eqb o.number n ne)

with_tells : (n : ℕ) (os : List Order) → MatchOption (order_with n os) (Absent order_number n os) (λ o. Has os o × (o.number ≡ n))
unfolding order_with
with_tells n [] = tt
with_tells n (x ∷ os) =
    cond_both (eqb x.number n) (Some x) (order_with n os) (λ r. MatchOption r (Absent order_number n (x ∷ os)) (λ o. Has (x ∷ os) o × (o.number ≡ n)))
    (λ e. (has_first x os, eqb-true x.number n e))
    (λ e. behind (order_with n os) (with_tells n os) (eqb-false x.number n e))
  where
    behind : (r : Option Order) → MatchOption r (Absent order_number n os) (λ o. Has os o × (o.number ≡ n)) → (x.number ≡ n → ⊥)
        → MatchOption r (Absent order_number n (x ∷ os)) (λ o. Has (x ∷ os) o × (o.number ≡ n))
    behind None a ne = (ne, a)
    behind (Some o) h ne = (has_later x os o h.0, h.1)

pub with_some : (n : ℕ) (os : List Order) (o : Order) → order_with n os ≡ Some o → Has os o × (o.number ≡ n)
with_some n os o e = subst (λ (r : Option Order). MatchOption r (Absent order_number n os) (λ o. Has os o × (o.number ≡ n))) e (with_tells n os)

pub left_none : (n : ℕ) (os : List Order) → order_with n os ≡ None → left_of n os ≡ 0
left_none n os e = ap quantity_in e

pub with_absent : (n : ℕ) (os : List Order) → Absent order_number n os → order_with n os ≡ None
unfolding order_with
with_absent n [] a = refl
with_absent n (x ∷ os) a = with_past n x os a.0 ∙ with_absent n os a.1

pub left_absent : (n : ℕ) (os : List Order) → Absent order_number n os → left_of n os ≡ 0
left_absent n os a = ap quantity_in (with_absent n os a)

-- under distinct numbers each order is found
with_each : (os : List Order) → Distinct order_number os → AllByRecursion (λ o. order_with o.number os ≡ Some o) os
with_each [] d = tt
with_each (x ∷ os) d = (with_here x.number x os refl, behind os d.0 (with_each os d.1))
  where
    behind : (ys : List Order) → AllByRecursion (λ y. x.number ≡ y.number → ⊥) ys → AllByRecursion (λ o. order_with o.number os ≡ Some o) ys → AllByRecursion (λ o. order_with o.number (x ∷ os) ≡ Some o) ys
    behind [] ne a = tt
    behind (y ∷ ys) ne a = (with_past y.number x os ne.0 ∙ a.0, behind ys ne.1 a.1)

pub with_has : (os : List Order) (o : Order) → Ready os → Has os o → order_with o.number os ≡ Some o
with_has os o ready h = all-has (λ o. order_with o.number os ≡ Some o) os o (with_each os ready.distinct) h

pub left_has : (os : List Order) (o : Order) → Ready os → Has os o → left_of o.number os ≡ o.quantity
left_has os o ready h = ap quantity_in (with_has os o ready h)

-- one number is of one order
pub one_number : (os : List Order) (x y : Order) → Ready os → Has os x → Has os y → x.number ≡ y.number → x ≡ y
one_number os x y ready hx hy e =
    let a : order_with x.number os ≡ Some x = with_has os x ready hx in
    let b : order_with y.number os ≡ Some y = with_has os y ready hy in
    cc

-- where something is left, an order rests
pub has_left : (n : ℕ) (os : List Order) → 1 ≤ left_of n os → (o : Order) × Has os o × (o.number ≡ n) × (o.quantity ≡ left_of n os)
has_left n os some = go (order_with n os) refl
  where
    go : (r : Option Order) → order_with n os ≡ r → (o : Order) × Has os o × (o.number ≡ n) × (o.quantity ≡ left_of n os)
    go None e = absurd (omega (arith, left_none n os e))
    go (Some o) e = let found = with_some n os o e in (o, found.0, found.1, sym (ap quantity_in e))
