-- The laws of fields.
use Rattle.std.proofs.Common.{◌≡◌, ℕ, zero, suc, ◌+◌, ◌-◌, ◌*◌, ◌/◌, ◌%◌, ◌^◌, ◌<◌, ◌≤◌, List, get_or, ap, ◌∙◌, add-zero, add_assoc, add-suc, mul_assoc, add-mul, pow-suc, arith, pow_mono, pow-add, shr-shr}
use lib.Pow.{high, low}
use Rattle.messages.specs.Bits.{bit, field}

pub field_lt : (bs : List ℕ) (p w : ℕ) → field bs p w < 2 ^ w
unfolding field
field_lt bs p zero = omega arith
field_lt bs p (suc w) = omega (arith, field_lt bs p w, pow-suc 2 w)

pub field_below : (bs : List ℕ) (p w n : ℕ) → w ≤ n → field bs p w < 2 ^ n
field_below bs p w n h = omega (arith, field_lt bs p w, pow_mono h)

-- two fields side by side are one
pub field_add : (bs : List ℕ) (p v w : ℕ) → field bs p (v + w) ≡ field bs p v * 2 ^ w + field bs (p + v) w
unfolding field
field_add bs p v zero = rw add-zero (omega arith)
field_add bs p v (suc w) = rw add-suc (omega (arith, field_add bs p v w, ap (λ (x : ℕ). field bs p v * x) (pow-suc 2 w), mul_assoc (field bs p v) (2 ^ w) 2, ap (bit bs) (add_assoc p v w)))

-- a field is cut out of a wider one
pub field_cut : (bs : List ℕ) (o p w t : ℕ) → field bs o (p + (w + t)) / 2 ^ t % 2 ^ w ≡ field bs (o + p) w
field_cut bs o p w t =
    let a = field bs o p in
    let f = field bs (o + p) w in
    let l = field bs (o + p + w) t in
    let whole : field bs o (p + (w + t)) ≡ (a * 2 ^ w + f) * 2 ^ t + l =
    omega (arith, field_add bs o p (w + t), field_add bs (o + p) w t, ap (λ (x : ℕ). a * x) (pow-add 2 w t), mul_assoc a (2 ^ w) (2 ^ t), add-mul (a * 2 ^ w) f (2 ^ t)) in
    ap (λ (x : ℕ). x / 2 ^ t % 2 ^ w) whole ∙ ap (λ (x : ℕ). x % 2 ^ w) (high (a * 2 ^ w + f) t (field_lt bs (o + p + w) t)) ∙ low a w (field_lt bs (o + p) w)

-- the first bits of a byte
pub front_of_byte : (bs : List ℕ) (j w : ℕ) → get_or bs j 0 < 256 → w ≤ 8 → field bs (8 * j) w ≡ get_or bs j 0 / 2 ^ (8 - w)
unfolding field
front_of_byte bs j zero b h = omega arith
front_of_byte bs j (suc w) b h =
    let x = get_or bs j 0 in
    let e : (8 * j + w) / 8 ≡ j = omega arith in
    let f : 7 - (8 * j + w) % 8 ≡ 8 - suc w = omega arith in
    let g : 8 - suc w + 1 ≡ 8 - w = omega arith in
    let bitIs : bit bs (8 * j + w) ≡ x / 2 ^ (8 - suc w) % 2 = ap (λ (k : ℕ). get_or bs k 0 / 2 ^ (7 - (8 * j + w) % 8) % 2) e ∙ ap (λ (k : ℕ). x / 2 ^ k % 2) f in
    let up : x / 2 ^ (8 - suc w) / 2 ≡ x / 2 ^ (8 - w) = shr-shr x (8 - suc w) 1 ∙ ap (λ (k : ℕ). x / 2 ^ k) g in
    omega (arith, front_of_byte bs j w b (omega arith), bitIs, up)

-- one byte more
pub field_byte : (bs : List ℕ) (f k : ℕ) → get_or bs (f + k) 0 < 256 → field bs (8 * f) (8 * (k + 1)) ≡ field bs (8 * f) (8 * k) * 256 + get_or bs (f + k) 0
field_byte bs f k b =
    let e : 8 * (k + 1) ≡ 8 * k + 8 = omega arith in
    let g : 8 * f + 8 * k ≡ 8 * (f + k) = omega arith in
    ap (field bs (8 * f)) e ∙ field_add bs (8 * f) (8 * k) 8 ∙ ap (λ (x : ℕ). field bs (8 * f) (8 * k) * 256 + x) (ap (λ (x : ℕ). field bs x 8) g ∙ front_of_byte bs (f + k) 8 b (omega arith) ∙ omega arith)
