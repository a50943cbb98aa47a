use Rattle.std.proofs.Common.{sym, ◌∙◌, refl, arith}
use Rattle.messages.specs.Layout.{unused_bits}
use Rattle.messages.proofs.Offences.{first_none}
use Rattle.messages.proofs.Passing.{unused_next, unused_clear}
use Rattle.messages.proofs.bits.BitReader.unused_bits.Goals as goal

pub loop-init : goal.loop-init
unfolding unused_bits
loop-init c = record { at = omega arith; offence = sym (first_none _); bytes = refl }

pub loop-preserved : goal.loop-preserved
loop-preserved c = unused_next c.loop.invariant c.field.ensures.passed

pub returns-else-number-ne0 : goal.returns-else-number-ne0
returns-else-number-ne0 c = record { passed = unused_clear (sym c.if-number-ne0.false ∙ c.number.ensures.value) c.number.ensures.passed }
