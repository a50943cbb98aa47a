-- The legs of a definition, one after the other.
use Rattle.std.proofs.Common.{◌≡◌, ℕ, ◌+◌, ◌*◌, ◌^◌, Bool, true, ltb, leb, ◌&&◌, List, [], ◌∷◌, ◌++◌, length, replicate, refl, ap, ◌∙◌, cond, false, arith}
use Rattle.contents.specs.declared.message.LegFields.{LegFields}
use Rattle.contents.specs.declared.message.Message.TheVariants.{Define}
use Rattle.contents.specs.Sides.{leg_side_code}
use Rattle.messages.specs.Layout.{Field, all_ones, leg_layout, unused_bits}
use Rattle.messages.specs.Writing.{all_within, leg_values, fits, image, image_of}

-- whether legs fit, the first of them in place i
abbrev pub legs_fit : ℕ → ℕ → List LegFields → Bool
legs_fit n i [] = true
legs_fit n i (l ∷ ls) = all_within (leg_layout (ltb i n) (12 + 15 * i)) (leg_values l) && legs_fit n (i + 1) ls

abbrev pub legs_image : ℕ → ℕ → List LegFields → ℕ
legs_image n i [] = 0
legs_image n i (l ∷ ls) = image (leg_layout (ltb i n) (12 + 15 * i)) (leg_values l) + legs_image n (i + 1) ls

-- the tests of a leg, and then the rest
group : (a b d r : Bool) → (a && (b && (d && r))) ≡ ((a && (b && (d && true))) && r)
group true true true r = refl
group true true false r = refl
group true false d r = refl
group false b d r = refl

leg_then : (w : Bool) (p : ℕ) (l : LegFields) (fs : List Field) (vs : List ℕ) → all_within (leg_layout w p ++ fs) (leg_values l ++ vs) ≡ (all_within (leg_layout w p) (leg_values l) && all_within fs vs)
leg_then w p l fs vs =
    group (leb l.series (cond w (all_ones 10) 0)) (leb (leg_side_code l.side) (cond w (all_ones 1) 0)) (leb l.ratio (cond w (all_ones 4) 0)) (all_within fs vs)

-- a definition fits if its count does and each leg
pub define_fits : (n : ℕ) (ls : List LegFields) → length ls ≡ 4 → fits (Define (record { count = n; legs = ls })) ≡ (leb n 15 && legs_fit n 0 ls)
unfolding unused_bits
define_fits n [] h = absurd (omega arith)
define_fits n (a ∷ []) h = absurd (omega arith)
define_fits n (a ∷ b ∷ []) h = absurd (omega arith)
define_fits n (a ∷ b ∷ d ∷ []) h = absurd (omega arith)
define_fits n (a ∷ b ∷ d ∷ e ∷ []) h =
    let f4 : List Field = leg_layout (ltb 3 n) 57 ++ unused_bits 72 40 in
    let v4 : List ℕ = leg_values e ++ replicate 40 0 in
    let f3 : List Field = leg_layout (ltb 2 n) 42 ++ f4 in
    let v3 : List ℕ = leg_values d ++ v4 in
    let f2 : List Field = leg_layout (ltb 1 n) 27 ++ f3 in
    let v2 : List ℕ = leg_values b ++ v3 in
    ap (λ (x : Bool). leb n 15 && x)
    (leg_then (ltb 0 n) 12 a f2 v2
    ∙ ap (λ (x : Bool). all_within (leg_layout (ltb 0 n) 12) (leg_values a) && x)
    (leg_then (ltb 1 n) 27 b f3 v3
    ∙ ap (λ (x : Bool). all_within (leg_layout (ltb 1 n) 27) (leg_values b) && x)
    (leg_then (ltb 2 n) 42 d f4 v4 ∙ ap (λ (x : Bool). all_within (leg_layout (ltb 2 n) 42) (leg_values d) && x) (leg_then (ltb 3 n) 57 e (unused_bits 72 40) (replicate 40 0)))))
define_fits n (a ∷ b ∷ d ∷ e ∷ f ∷ ls) h = absurd (omega arith)

-- its bits are those of the head, the count and the legs
pub define_bits : (n : ℕ) (ls : List LegFields) → length ls ≡ 4 → image_of (Define (record { count = n; legs = ls })) ≡ 2 * 2 ^ 108 + 4 * 2 ^ 104 + n * 2 ^ 100 + legs_image n 0 ls
unfolding unused_bits
define_bits n [] h = absurd (omega arith)
define_bits n (a ∷ []) h = absurd (omega arith)
define_bits n (a ∷ b ∷ []) h = absurd (omega arith)
define_bits n (a ∷ b ∷ d ∷ []) h = absurd (omega arith)
define_bits n (a ∷ b ∷ d ∷ e ∷ []) h = omega arith
define_bits n (a ∷ b ∷ d ∷ e ∷ f ∷ ls) h = absurd (omega arith)
