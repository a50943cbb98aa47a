-- The round trip over any layout whose fields stand one behind the other.
use Rattle.std.proofs.Common.{◌≡◌, ℕ, zero, suc, ◌+◌, ◌-◌, ◌*◌, ◌/◌, ◌%◌, ◌^◌, ◌<◌, ◌≤◌, Bool, true, false, cond, ltb, leb, List, [], ◌∷◌, length, replicate, Some, None, sym, refl, ap, ◌∙◌, subst, mul-le-mul_right, mul_assoc, add-mul, add-one, arith, pow-add}
use lib.Pow.{high, low}
use Rattle.std.proofs.lemmas.Bool.{and_from, and_parts, le-leb, leb-true, ltb-false}
use Rattle.messages.specs.Bits.{field, bytes_of}
use Rattle.messages.specs.Layout.{Field, Capable, unused_bits}
use Rattle.messages.specs.Laws.{Within}
use Rattle.messages.specs.Reading.{first, first_offence}
use Rattle.messages.specs.Writing.{all_within, image}
use Rattle.messages.proofs.Bytes.{field_bytes_of}
use Rattle.messages.proofs.FieldLaws.{field_add}
use Rattle.messages.proofs.Offences.{no_offence}

-- the numbers that fields write
abbrev pub values : List ℕ → List Field → List ℕ
values bs [] = []
values bs (f ∷ fs) = field bs f.place f.width ∷ values bs fs

-- fields that stand one behind the other, from a place to the end
abbrev pub Tiles : ℕ → List Field → Type 0
Tiles p [] = p ≡ 112
Tiles p (f ∷ fs) = (f.place ≡ p) × Tiles (p + f.width) fs

-- each value is within its field's bits
abbrev pub Slim : List Field → List ℕ → Type 0
Slim [] [] = Unit {0}
Slim [] (v ∷ vs) = ⊥
Slim (f ∷ fs) [] = ⊥
Slim (f ∷ fs) (v ∷ vs) = (v < 2 ^ f.width) × Slim fs vs

tiles_le : (p : ℕ) (fs : List Field) → Tiles p fs → p ≤ 112
tiles_le p [] t = omega arith
tiles_le p (f ∷ fs) t = let e : p + f.width ≤ 112 = tiles_le (p + f.width) fs t.1 in omega arith

-- the bits of fields are below those ahead of them
image_lt : (p : ℕ) (fs : List Field) (vs : List ℕ) → Tiles p fs → Slim fs vs → image fs vs < 2 ^ (112 - p)
image_lt p [] [] t s = let e : 112 - p ≡ 0 = omega arith in subst (λ (x : ℕ). 0 < 2 ^ x) (sym e) (omega arith)
image_lt p [] (v ∷ vs) t s = absurd s
image_lt p (f ∷ fs) [] t s = absurd s
image_lt p (f ∷ fs) (v ∷ vs) t s =
    let w = f.width in
    let bound : p + w ≤ 112 = tiles_le (p + w) fs t.1 in
    let k = 112 - (p + w) in
    let rest = image_lt (p + w) fs vs t.1 s.1 in
    let e : 112 - (f.place + w) ≡ k = ap (λ (x : ℕ). 112 - (x + w)) t.0 in
    let up : w + k ≡ 112 - p = omega arith in
    let more = mul-le-mul_right (2 ^ k) s.0 in
    omega (arith, rest, more, ap (λ (x : ℕ). v * 2 ^ x) e, sym (pow-add 2 w k) ∙ ap (λ (x : ℕ). 2 ^ x) up, add-mul v 1 (2 ^ k))

-- what stands ahead of a field does not change what is read from it
pub values_back : (h p : ℕ) (fs : List Field) (vs : List ℕ) → Tiles p fs → Slim fs vs → values (bytes_of 14 (h * 2 ^ (112 - p) + image fs vs)) fs ≡ vs
values_back h p [] [] t s = refl
values_back h p [] (v ∷ vs) t s = absurd s
values_back h p (f ∷ fs) [] t s = absurd s
values_back h p (f ∷ fs) (v ∷ vs) t s =
    let w = f.width in
    let bound : p + w ≤ 112 = tiles_le (p + w) fs t.1 in
    let k = 112 - (p + w) in
    let lo = image fs vs in
    let e : 112 - (f.place + w) ≡ k = ap (λ (x : ℕ). 112 - (x + w)) t.0 in
    let up : 112 - p ≡ w + k = omega arith in
    let n = h * 2 ^ (112 - p) + image (f ∷ fs) (v ∷ vs) in
    let split : n ≡ (h * 2 ^ w + v) * 2 ^ k + lo =
    omega (arith, ap (λ (x : ℕ). h * 2 ^ x) up, ap (λ (x : ℕ). h * x) (pow-add 2 w k), mul_assoc h (2 ^ w) (2 ^ k), ap (λ (x : ℕ). v * 2 ^ x) e, add-mul (h * 2 ^ w) v (2 ^ k)) in
    let below = image_lt (p + w) fs vs t.1 s.1 in
    let k' : 112 - p - w ≡ k = omega arith in
    let here : field (bytes_of 14 n) f.place w ≡ v =
    ap (λ (x : ℕ). field (bytes_of 14 n) x w) t.0
    ∙ field_bytes_of n p w bound
    ∙ ap (λ (x : ℕ). n / 2 ^ x % 2 ^ w) k'
    ∙ ap (λ (x : ℕ). x / 2 ^ k % 2 ^ w) split
    ∙ ap (λ (x : ℕ). x % 2 ^ w) (high (h * 2 ^ w + v) k below)
    ∙ low h w s.0 in
    let rest = ap (λ (x : ℕ). values (bytes_of 14 x) fs) split ∙ values_back (h * 2 ^ w + v) (p + w) fs vs t.1 s.1 in
    λ i. here i ∷ rest i

-- the bits of what fields write are the bits that are there
pub image_back : (bs : List ℕ) (p : ℕ) (fs : List Field) → Tiles p fs → image fs (values bs fs) ≡ field bs p (112 - p)
unfolding field
image_back bs p [] t = let e : 0 ≡ 112 - p = omega arith in ap (field bs p) e
image_back bs p (f ∷ fs) t =
    let w = f.width in
    let bound : p + w ≤ 112 = tiles_le (p + w) fs t.1 in
    let k = 112 - (p + w) in
    let e : 112 - (f.place + w) ≡ k = ap (λ (x : ℕ). 112 - (x + w)) t.0 in
    let up : w + k ≡ 112 - p = omega arith in
    omega (arith, image_back bs (p + w) fs t.1, ap (λ (x : ℕ). field bs x w * 2 ^ (112 - (x + w))) t.0, field_add bs p w k, ap (field bs p) up)

-- fields that fit do not offend, and the other way
pub within_none : (bs : List ℕ) (fs : List Field) → Within bs fs → first_offence bs fs ≡ None
within_none bs [] h = refl
within_none bs (f ∷ fs) h = ap (λ o. first o (first_offence bs fs)) (no_offence bs f h.0) ∙ within_none bs fs h.1

pub none_within : (bs : List ℕ) (fs : List Field) → first_offence bs fs ≡ None → Within bs fs
none_within bs [] h = tt
none_within bs (f ∷ fs) h =
    let v = field bs f.place f.width in
    let Is : Bool → Type 0 = λ b. ltb f.greatest v ≡ b → first (cond b (Some f.answered) None) (first_offence bs fs) ≡ None → (v ≤ f.greatest) × Within bs fs in
    (elim (ltb f.greatest v) as Is [ true ↦ λ e q. let z : ◌≡◌ {A = ℕ} 0 1 = cc in absurd (omega arith) | false ↦ λ e q. (ltb-false f.greatest v e, none_within bs fs q) ]) refl h

-- what fields write is within them where they fit, and the other way
pub within_all : (bs : List ℕ) (fs : List Field) → Within bs fs → all_within fs (values bs fs) ≡ true
within_all bs [] h = refl
within_all bs (f ∷ fs) h = and_from _ _ (le-leb (field bs f.place f.width) f.greatest h.0) (within_all bs fs h.1)

pub all_to_within : (bs : List ℕ) (fs : List Field) → all_within fs (values bs fs) ≡ true → Within bs fs
all_to_within bs [] h = tt
all_to_within bs (f ∷ fs) h =
    let p = and_parts (leb (field bs f.place f.width) f.greatest) (all_within fs (values bs fs)) h in
    (leb-true (field bs f.place f.width) f.greatest p.0, all_to_within bs fs p.1)

pub slim : (fs : List Field) (vs : List ℕ) → Capable fs → length fs ≡ length vs → all_within fs vs ≡ true → Slim fs vs
slim [] [] c l h = tt
slim [] (v ∷ vs) c l h = absurd (omega arith)
slim (f ∷ fs) [] c l h = absurd (omega arith)
slim (f ∷ fs) (v ∷ vs) c l h =
    let p = and_parts (leb v f.greatest) (all_within fs vs) h in
    let le : v ≤ f.greatest = leb-true v f.greatest p.0 in
    let cap : f.greatest < 2 ^ f.width = c.0 in
    (omega arith, slim fs vs c.1 (omega arith) p.1)

-- unused bits
pub unused_tiles : (p n : ℕ) → p + n ≡ 112 → Tiles p (unused_bits p n)
unfolding unused_bits
unused_tiles p zero h = omega arith
unused_tiles p (suc n) h = (refl, subst (λ (x : ℕ). Tiles x (unused_bits (suc p) n)) (sym (add-one p)) (unused_tiles (suc p) n (omega arith)))

pub unused_capable : (p n : ℕ) → Capable (unused_bits p n)
unfolding unused_bits
unused_capable p zero = tt
unused_capable p (suc n) = (omega arith, unused_capable (suc p) n)

pub unused_values : (bs : List ℕ) (p n : ℕ) → Within bs (unused_bits p n) → values bs (unused_bits p n) ≡ replicate n 0
unfolding unused_bits
unused_values bs p zero h = refl
unused_values bs p (suc n) h =
    let here : field bs p 1 ≤ 0 = h.0 in
    let z : field bs p 1 ≡ 0 = omega arith in
    let rest = unused_values bs (suc p) n h.1 in
    λ i. z i ∷ rest i
