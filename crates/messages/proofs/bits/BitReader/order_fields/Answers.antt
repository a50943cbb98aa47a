use Rattle.std.proofs.Common.{ℕ, [], ◌∷◌, arith}
use Rattle.messages.specs.Layout.{up_to, unused_bits}
use Rattle.messages.proofs.FieldLaws.{field_lt}
use Rattle.messages.proofs.Passing.{passed_at, passed_then}
use Rattle.messages.proofs.bits.BitReader.order_fields.Goals as goal

pub returns-clause-passed : goal.returns-clause-passed
returns-clause-passed c =
    let g = c.args.greatest.now in
    let strategy = passed_at 8 (λ (p : ℕ). up_to p 8 g.strategy ∷ []) c.requires.begins c.field.ensures.passed in
    let side = passed_then 16 (λ (p : ℕ). up_to p 1 g.side ∷ []) (omega arith) strategy c.field-2.ensures.passed in
    let market = passed_then 17 (λ (p : ℕ). up_to p 1 g.market ∷ []) (omega arith) side c.field-3.ensures.passed in
    let time = passed_then 18 (λ (p : ℕ). up_to p 2 g.time_in_force ∷ []) (omega arith) market c.field-4.ensures.passed in
    let limit = passed_then 20 (λ (p : ℕ). up_to p 32 g.limit ∷ []) (omega arith) time c.field-5.ensures.passed in
    let quantity = passed_then 52 (λ (p : ℕ). up_to p 16 g.quantity ∷ []) (omega arith) limit c.field-6.ensures.passed in
    let number = passed_then 68 (λ (p : ℕ). up_to p 32 g.number ∷ []) (omega arith) quantity c.field-7.ensures.passed in
    passed_then 100 (λ (p : ℕ). unused_bits p 12) (omega arith) number c.unused_bits.ensures.passed

pub returns-clause-narrow : goal.returns-clause-narrow
returns-clause-narrow c = omega (arith, c.field-5.ensures.value, field_lt c.field-4.new.self.bytes.now c.field-4.new.self.at 32)
