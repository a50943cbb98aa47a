use Rattle.std.proofs.Common.{◌≡◌, ℕ, ltb, [], ◌∷◌, subst, arith}
use Rattle.messages.specs.Layout.{up_to, leg_layout, unused_bits, define_layout}
use Rattle.messages.specs.Reading.{leg_count}
use Rattle.messages.specs.Passing.{Passed}
use Rattle.messages.proofs.Passing.{passed_at, passed_then}
use Rattle.messages.proofs.bits.BitReader.definition.Goals as goal

pub returns-clause-passed : goal.returns-clause-passed
returns-clause-passed c =
    let n = c.field-count.result in
    let counted : n ≡ leg_count c.args.self.now.bytes.now = cc in
    let count = passed_at 8 (λ (p : ℕ). up_to p 4 15 ∷ []) c.requires.begins c.field-count.ensures.passed in
    let first = passed_then 12 (leg_layout (ltb 0 n)) (omega arith) count c.leg.ensures.passed in
    let second = passed_then 27 (leg_layout (ltb 1 n)) (omega arith) first c.leg-2.ensures.passed in
    let third = passed_then 42 (leg_layout (ltb 2 n)) (omega arith) second c.leg-3.ensures.passed in
    let fourth = passed_then 57 (leg_layout (ltb 3 n)) (omega arith) third c.leg-4.ensures.passed in
    let whole = passed_then 72 (λ (p : ℕ). unused_bits p 40) (omega arith) fourth c.unused_bits.ensures.passed in
    subst (λ (k : ℕ). Passed c.args.self.now c.unused_bits.new.self 104 (define_layout k)) counted whole
