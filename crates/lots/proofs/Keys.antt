-- The keys of a lot, in turn.
use Rattle.std.proofs.Common.{◌≡◌, ℕ, Bool, not, ltb, Some, ℤ, pos, ap, ◌∙◌}
use Rattle.std.specs.Ordering.{nat_cmp, int_cmp, bool_cmp, partial_ordering_then}
use Rattle.ranked.specs.Lex.{lex, first_if}
use Rattle.ranked.proofs.Keys.{lower, by_nat, by_int, by_bool, by_last, then_along}

pub keys_compare : (a b : ℕ) (p q : Bool) (x y : ℤ) (c d : Bool) (m n : ℕ)
    → lower (partial_ordering_then (partial_ordering_then (partial_ordering_then (partial_ordering_then (Some (nat_cmp a b)) (Some (bool_cmp (not p) (not q)))) (Some (int_cmp x y))) (Some (bool_cmp (not c) (not d)))) (Some (nat_cmp m n)))
    ≡ lex (pos a) (pos b) (lex (first_if p) (first_if q) (lex x y (lex (first_if c) (first_if d) (ltb m n))))
keys_compare a b p q x y c d m n =
    let s = Some (nat_cmp a b) in
    let o = Some (bool_cmp (not p) (not q)) in
    let r = Some (int_cmp x y) in
    let k = Some (bool_cmp (not c) (not d)) in
    let l = Some (nat_cmp m n) in
    ap lower (then_along (partial_ordering_then (partial_ordering_then s o) r) k l ∙ then_along (partial_ordering_then s o) r (partial_ordering_then k l) ∙ then_along s o (partial_ordering_then r (partial_ordering_then k l)))
    ∙ by_nat a b (partial_ordering_then o (partial_ordering_then r (partial_ordering_then k l)))
    ∙ ap (lex (pos a) (pos b)) (by_bool p q (partial_ordering_then r (partial_ordering_then k l)) ∙ ap (lex (first_if p) (first_if q)) (by_int x y (partial_ordering_then k l) ∙ ap (lex x y) (by_bool c d l ∙ ap (lex (first_if c) (first_if d)) (by_last m n))))
