-- The keys of an order, in turn.
use Rattle.std.proofs.Common.{◌≡◌, ℕ, Bool, true, false, cond, not, ltb, Option, Some, Ordering, ℤ, pos, ◌-ℤ◌, refl, ap, ◌∙◌, arith}
use Rattle.std.specs.Ordering.{nat_cmp, int_cmp, bool_cmp, partial_ordering_then}
use Rattle.std.proofs.lemmas.Int.{ints}
use Rattle.ranked.specs.Lex.{lex, first_if, better}
use Rattle.ranked.proofs.Keys.{lower, by_nat, by_int, by_last, then_along}

-- of buys the higher limit is the lesser key
abbrev turned : Bool → ℤ → ℤ
turned s l = cond s (pos 0 -ℤ pos 1 -ℤ l) l

-- of two sides the buy, and on one side the better limit
by_side : (s t : Bool) (l m : ℤ) (p : Option Ordering) → lower (partial_ordering_then (Some (bool_cmp (not s) (not t))) (partial_ordering_then (Some (int_cmp (turned s l) (turned t m))) p)) ≡ lex (first_if s) (first_if t) (lex (better s l) (better t m) (lower p))
by_side true true l m p = grind (arith, ints)
by_side true false l m p = refl
by_side false true l m p = refl
by_side false false l m p = by_int l m p

pub ahead_so :
    (a b : ℕ) (s t : Bool) (l m : ℤ) (n k : ℕ)
    → lower (partial_ordering_then (partial_ordering_then (partial_ordering_then (Some (nat_cmp a b)) (Some (bool_cmp (not s) (not t)))) (Some (int_cmp (turned s l) (turned t m)))) (Some (nat_cmp n k)))
    ≡ lex (pos a) (pos b) (lex (first_if s) (first_if t) (lex (better s l) (better t m) (ltb n k)))
ahead_so a b s t l m n k =
    let x = Some (nat_cmp a b) in
    let y = Some (bool_cmp (not s) (not t)) in
    let z = Some (int_cmp (turned s l) (turned t m)) in
    let w = Some (nat_cmp n k) in
    ap lower (then_along (partial_ordering_then x y) z w ∙ then_along x y (partial_ordering_then z w))
    ∙ by_nat a b (partial_ordering_then y (partial_ordering_then z w))
    ∙ ap (λ next. lex (pos a) (pos b) next) (by_side s t l m w ∙ ap (λ next. lex (first_if s) (first_if t) (lex (better s l) (better t m) next)) (by_last n k))
