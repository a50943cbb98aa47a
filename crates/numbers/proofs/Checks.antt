-- An answer that is given just where a fact holds: two such are the same, and one stays so under another fact or a function.
use Rattle.std.proofs.Common.{◌≡◌, Some, None, Option, sym, refl, ap, ◌∙◌}
use Rattle.std.specs.Option.{SomeIff, option_map}

pub same_checked : {A : Type 0} (r s : Option A) (P : Type 0) (v : A) → SomeIff r P v → SomeIff s P v → r ≡ s
same_checked None None P v h k = refl
same_checked None (Some y) P v h k = absurd (h k.0)
same_checked (Some x) None P v h k = absurd (k h.0)
same_checked (Some x) (Some y) P v h k = ap (λ z. Some z) (h.1 ∙ sym k.1)

pub checked_under : {A : Type 0} (r : Option A) (P Q : Type 0) (v u : A) → (P → Q) → (Q → P) → v ≡ u → SomeIff r P v → SomeIff r Q u
checked_under None P Q v u to from e h = λ q. h (from q)
checked_under (Some x) P Q v u to from e h = (to h.0, h.1 ∙ e)

pub checked_mapped : {A B : Type 0} (f : A → B) (r : Option A) (P : Type 0) (v : A) → SomeIff r P v → SomeIff (option_map f r) P (f v)
checked_mapped f None P v h = h
checked_mapped f (Some x) P v h = (h.0, ap f h.1)
