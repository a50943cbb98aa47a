-- Tuples of keys compare as the keys do one after another.
use Rattle.std.proofs.Common.{◌≡◌, ℕ, Bool, true, false, not, ltb, Option, Some, None, Ordering, Less, Equal, Greater, ℤ, pos, refl, arith}
use Rattle.std.specs.Ordering.{is_some_and, is_lt, nat_cmp, int_cmp, bool_cmp, partial_ordering_then}
use Rattle.std.proofs.lemmas.Int.{ints}
use Rattle.std.proofs.lemmas.Bool.Decides.{nat_tests}
use Rattle.ranked.specs.Lex.{lex, first_if}

-- what `<` answers of two tuples
abbrev pub lower : Option Ordering → Bool
lower o = is_some_and is_lt o

-- one key, and what comes behind it
pub by_nat : (a b : ℕ) (p : Option Ordering) → lower (partial_ordering_then (Some (nat_cmp a b)) p) ≡ lex (pos a) (pos b) (lower p)
by_nat a b p = grind (arith, nat_tests, ints)

pub by_int : (a b : ℤ) (p : Option Ordering) → lower (partial_ordering_then (Some (int_cmp a b)) p) ≡ lex a b (lower p)
by_int a b p = grind (arith, ints)

pub by_bool : (s t : Bool) (p : Option Ordering) → lower (partial_ordering_then (Some (bool_cmp (not s) (not t))) p) ≡ lex (first_if s) (first_if t) (lower p)
by_bool true true p = refl
by_bool true false p = refl
by_bool false true p = refl
by_bool false false p = refl

-- the last key
pub by_last : (a b : ℕ) → lower (Some (nat_cmp a b)) ≡ ltb a b
by_last a b = grind (arith, nat_tests)

-- the keys of a tuple, taken from the front
pub then_along : (a b c : Option Ordering) → partial_ordering_then (partial_ordering_then a b) c ≡ partial_ordering_then a (partial_ordering_then b c)
then_along None b c = refl
then_along (Some Less) b c = refl
then_along (Some Equal) b c = refl
then_along (Some Greater) b c = refl
