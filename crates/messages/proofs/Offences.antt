-- The first offence among fields.
use Rattle.std.proofs.Common.{◌≡◌, ℕ, zero, suc, ◌+◌, ◌*◌, ◌^◌, ◌<◌, ◌≤◌, List, [], ◌∷◌, ◌++◌, Some, None, Option, sym, refl, ap, ◌∙◌, add-one, one-add, arith, pow_pos}
use Rattle.std.proofs.lemmas.Bool.{cond-false, le-ltb}
use Rattle.messages.specs.Bits.{field}
use Rattle.messages.specs.Layout.{Field, up_to, unused_bits}
use Rattle.messages.specs.Reading.{first, offence_of, first_offence}
use Rattle.messages.proofs.FieldLaws.{field_lt, field_add}

-- of a field that is 0, the first part is 0 and the rest is
front_zero : (a k r : ℕ) → a < 2 → 0 < k → a * k + r ≡ 0 → (a ≡ 0) × (r ≡ 0)
front_zero zero k r b p h = (refl, omega arith)
front_zero (suc a) k r b p h =
    let one : a ≡ 0 = omega arith in
    let m : suc a * k ≡ k = ap (λ (x : ℕ). suc x * k) one ∙ omega arith in
    absurd (omega arith)

pub no_offence : (bs : List ℕ) (f : Field) → field bs f.place f.width ≤ f.greatest → offence_of bs f ≡ None
no_offence bs f h = cond-false _ _ _ (le-ltb f.greatest (field bs f.place f.width) h)

pub first_assoc : (a b d : Option ℕ) → first (first a b) d ≡ first a (first b d)
first_assoc (Some p) b d = refl
first_assoc None b d = refl

pub first_none : (a : Option ℕ) → first a None ≡ a
first_none (Some p) = refl
first_none None = refl

-- fields behind fields
pub first_offence_++ : (bs : List ℕ) (xs ys : List Field) → first_offence bs (xs ++ ys) ≡ first (first_offence bs xs) (first_offence bs ys)
first_offence_++ bs [] ys = refl
first_offence_++ bs (f ∷ xs) ys = ap (first (offence_of bs f)) (first_offence_++ bs xs ys) ∙ sym (first_assoc (offence_of bs f) (first_offence bs xs) (first_offence bs ys))

-- unused bits whose number is 0 do not offend
pub unused_none : (bs : List ℕ) (p w : ℕ) → field bs p w ≡ 0 → first_offence bs (unused_bits p w) ≡ None
unfolding unused_bits
unused_none bs p zero h = refl
unused_none bs p (suc w) h =
    let whole = field_add bs p 1 w in
    let parts = front_zero (field bs p 1) (2 ^ w) (field bs (p + 1) w) (field_lt bs p 1) (pow_pos w) (sym whole ∙ ap (field bs p) (one-add w) ∙ h) in
    let low : field bs p 1 ≤ 0 = omega (arith, parts.0) in
    let here = no_offence bs (up_to p 1 0) low in
    let later = unused_none bs (suc p) w (ap (λ (x : ℕ). field bs x w) (sym (add-one p)) ∙ parts.1) in
    ap (λ (o : Option ℕ). first o (first_offence bs (unused_bits (suc p) w))) here ∙ later
