-- The laws of rankings by one key after another.
use Rattle.std.proofs.Common.{◌≡◌, ℕ, Bool, true, false, not, ltb, List, [], ◌∷◌, ℤ, refl, arith}
use Rattle.std.proofs.lemmas.Int.{ints}
use Rattle.std.proofs.lemmas.Bool.Decides.{nat_tests}
use Rattle.ranked.specs.Lex.{lex, by_keys}

-- one key
pub lex_same : (a b : ℤ) (next : Bool) → a ≡ b → lex a b next ≡ next
lex_same a b next e = grind (arith, ints)

pub lex_connected : (a b : ℤ) (p q : Bool) → p ≡ not q → lex a b p ≡ not (lex b a q)
lex_connected a b p q next = grind (arith, ints)

pub lex_transitive : (a b c : ℤ) (p q r : Bool) → (p ≡ true → q ≡ true → r ≡ true) → lex a b p ≡ true → lex b c q ≡ true → lex a c r ≡ true
lex_transitive a b c p q r next h k = grind (arith, ints)

-- numbers alone
pub lower_connected : (m n : ℕ) → (m ≡ n → ⊥) → ltb m n ≡ not (ltb n m)
lower_connected m n apart = grind (arith, nat_tests)

pub lower_irreflexive : (n : ℕ) → ltb n n ≡ false
lower_irreflexive n = grind (arith, nat_tests)

pub lower_transitive : (l m n : ℕ) → ltb l m ≡ true → ltb m n ≡ true → ltb l n ≡ true
lower_transitive l m n h k = grind (arith, nat_tests)

-- any keys, and at last numbers
module _ {X : Type 0} (serial : X → ℕ) where
  pub keys_connected : (keys : List (X → ℤ)) (x y : X) → (serial x ≡ serial y → ⊥) → by_keys keys serial x y ≡ not (by_keys keys serial y x)
  keys_connected [] x y apart = lower_connected (serial x) (serial y) apart
  keys_connected (key ∷ keys) x y apart =
      lex_connected (key x) (key y) (by_keys keys serial x y) (by_keys keys serial y x) (keys_connected keys x y apart)

  pub keys_irreflexive : (keys : List (X → ℤ)) (x : X) → by_keys keys serial x x ≡ false
  keys_irreflexive [] x = lower_irreflexive (serial x)
  keys_irreflexive (key ∷ keys) x = rw (lex_same (key x) (key x) (by_keys keys serial x x) refl) (keys_irreflexive keys x)

  pub keys_transitive : (keys : List (X → ℤ)) (x y z : X) → by_keys keys serial x y ≡ true → by_keys keys serial y z ≡ true → by_keys keys serial x z ≡ true
  keys_transitive [] x y z = lower_transitive (serial x) (serial y) (serial z)
  keys_transitive (key ∷ keys) x y z =
      lex_transitive (key x) (key y) (key z) (by_keys keys serial x y) (by_keys keys serial y z) (by_keys keys serial x z) (keys_transitive keys x y z)
