-- What the reader has passed, field by field.
use Rattle.std.proofs.Common.{◌≡◌, ℕ, zero, suc, ◌+◌, List, [], ◌∷◌, ◌++◌, sym, refl, ap, ◌∙◌, subst, arith}
use Rattle.messages.specs.declared.bits.BitReader.{BitReader}
use Rattle.messages.specs.Bits.{field}
use Rattle.messages.specs.Layout.{Field, up_to, unused_bits}
use Rattle.messages.specs.Reading.{first, first_offence}
use Rattle.messages.specs.Passing.{Passed}
use Rattle.messages.proofs.Offences.{first_assoc, first_offence_++, unused_none}

-- fields from a place on
pub passed_at : {a b : BitReader} {w : ℕ} (p : ℕ) (fs : ℕ → List Field) → a.at ≡ p → Passed a b w (fs a.at) → Passed a b w (fs p)
passed_at {a} {b} {w} p fs e = subst (λ (x : ℕ). Passed a b w (fs x)) e

-- fields, and those behind them
pub passed_then : {a b d : BitReader} {w v : ℕ} {fs : List Field} (p : ℕ) (gs : ℕ → List Field) → a.at + w ≡ p → Passed a b w fs → Passed b d v (gs b.at) → Passed a d (w + v) (fs ++ gs p)
passed_then {a} {b} {d} {w} {v} {fs} p gs e before behind =
    let bs = a.bytes.now in
    let here : first_offence b.bytes.now (gs b.at) ≡ first_offence bs (gs p) = λ i. first_offence (before.bytes i) (gs ((before.at ∙ e) i)) in
    record {
      at = omega (arith, before.at, behind.at);
      offence =
          behind.offence
          ∙ (λ i. first (before.offence i) (here i))
          ∙ first_assoc a.offence (first_offence bs fs) (first_offence bs (gs p))
          ∙ ap (first a.offence) (sym (first_offence_++ bs fs (gs p)));
      bytes = behind.bytes ∙ before.bytes;
    }

-- one unused bit more
unused_more : (p w : ℕ) → unused_bits p w ++ (up_to (p + w) 1 0 ∷ []) ≡ unused_bits p (w + 1)
unfolding unused_bits
unused_more p zero = let e : p + 0 ≡ p = omega arith in ap (λ (x : ℕ). up_to x 1 0 ∷ []) e
unused_more p (suc w) =
    let e : p + suc w ≡ suc p + w = omega arith in
    let n : suc (w + 1) ≡ suc w + 1 = omega arith in
    ap (λ (fs : List Field). up_to p 1 0 ∷ fs) (ap (λ (x : ℕ). unused_bits (suc p) w ++ (up_to x 1 0 ∷ [])) e ∙ unused_more (suc p) w) ∙ ap (unused_bits p) n

pub unused_next : {a b d : BitReader} {w : ℕ} → Passed a b w (unused_bits a.at w) → Passed b d 1 (up_to b.at 1 0 ∷ []) → Passed a d (w + 1) (unused_bits a.at (w + 1))
unused_next {a} {b} {d} {w} p q =
    let both = passed_then (a.at + w) (λ (x : ℕ). up_to x 1 0 ∷ []) refl p q in
    record { at = both.at; offence = both.offence ∙ ap (λ (fs : List Field). first a.offence (first_offence a.bytes.now fs)) (unused_more a.at w); bytes = both.bytes }

-- bits that are all 0 offend nowhere
pub unused_clear : {a b : BitReader} {w : ℕ} → 0 ≡ field a.bytes.now a.at w → Passed a b w [] → Passed a b w (unused_bits a.at w)
unused_clear {a} {b} {w} z p = record { at = p.at; offence = p.offence ∙ ap (first a.offence) (sym (unused_none a.bytes.now a.at w (sym z))); bytes = p.bytes }
