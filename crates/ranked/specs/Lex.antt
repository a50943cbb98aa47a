-- Rankings by one key after another. Whatever the keys are, such a ranking is total and transitive.
use Rattle.std.specs.Prelude.{ℕ, Bool, true, false, cond, List, [], ◌∷◌, ℤ, pos, neg_ℤ, int_lt, nat_lt}

-- the smaller key is ahead, and at equal keys what comes next decides
abbrev pub lex : ℤ → ℤ → Bool → Bool
lex a b next = cond (int_lt a b) true (cond (int_lt b a) false next)

-- by each key in turn, and at last by the lower number
abbrev pub by_keys : {X : Type 0} → List (X → ℤ) → (X → ℕ) → X → X → Bool
by_keys [] serial x y = nat_lt (serial x) (serial y)
by_keys (key ∷ keys) serial x y = lex (key x) (key y) (by_keys keys serial x y)

-- yes before no
abbrev pub first_if : Bool → ℤ
first_if b = cond b (pos 0) (pos 1)

-- the better price is the higher one of a buyer, and the lower one of a seller
abbrev pub better : Bool → ℤ → ℤ
better buy price = cond buy (neg_ℤ price) price
