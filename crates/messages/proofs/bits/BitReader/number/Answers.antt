use Rattle.std.proofs.Common.{◌≡◌, ℕ, ◌+◌, ◌-◌, ◌*◌, ◌/◌, ◌%◌, ◌^◌, ◌<◌, get_or, take, drop, refl, ap, ◌∙◌, length-take-le, arith, rules}
use Rattle.std.proofs.lemmas.List.{get_or-take, get_or-drop}
use lib.Bits.{bit_and, bit_or}
use Rattle.std.proofs.lemmas.Nat.{and_mask, or_shifted, one_shl}
use Rattle.messages.specs.Bits.{field}
use Rattle.messages.proofs.FieldLaws.{field_below, field_byte, field_cut}
use Rattle.messages.proofs.bits.BitReader.number.Goals as goal

pub loop-byte-init : goal.loop-byte-init
unfolding field
loop-byte-init c = refl

pub loop-byte-preserved : goal.loop-byte-preserved
loop-byte-preserved c =
    let bs = c.args.self.now.bytes.now in
    let f = c.args.self.now.at / 8 in
    let n = c.div_ceil-last.result - f in
    let k = c.loop-byte.byte-index in
    let v = c.loop-byte.window in
    let here : get_or (take n (drop f bs)) k 0 ≡ get_or bs (f + k) 0 = get_or-take n (drop f bs) k 0 (grind (arith, length-take-le)) ∙ get_or-drop f bs k 0 in
    let b : get_or bs (f + k) 0 < 256 = search rules in
    let small = field_below bs (8 * f) (8 * k) 48 (omega arith) in
    let m : (v * 256) % 2 ^ 64 ≡ v * 256 = omega arith in
    ap (bit_or (v * 256 % 2 ^ 64)) here ∙ ap (λ (x : ℕ). bit_or x (get_or bs (f + k) 0)) m ∙ or_shifted v 8 (get_or bs (f + k) 0) b ∙ omega (arith, field_byte bs f k b)

pub returns-clause-value : goal.returns-clause-value
returns-clause-value c =
    let bs = c.args.self.now.bytes.now in
    let at = c.args.self.now.at in
    let w = c.args.width in
    let f = at / 8 in
    let t = 8 * c.div_ceil-last.result - (at + w) in
    let p = at - 8 * f in
    let v = c.loop-byte.window in
    let e : 8 * c.loop-byte.byte-index ≡ p + (w + t) = omega arith in
    let o : 8 * f + p ≡ at = omega arith in
    let mask : bit_and (v / 2 ^ t) ((1 * 2 ^ w) % 2 ^ 64 - 1) ≡ v / 2 ^ t % 2 ^ w = ap (λ (x : ℕ). bit_and (v / 2 ^ t) (x - 1)) (one_shl w 64 (omega arith)) ∙ and_mask (v / 2 ^ t) w in
    mask ∙ ap (λ (x : ℕ). x / 2 ^ t % 2 ^ w) (c.loop-byte.invariant ∙ ap (field bs (8 * f)) e) ∙ field_cut bs (8 * f) p w t ∙ ap (λ (x : ℕ). field bs x w) o
