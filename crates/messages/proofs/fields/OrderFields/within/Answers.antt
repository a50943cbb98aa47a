use Rattle.std.proofs.Common.{rules}
use Rattle.messages.specs.Layout.{unused_bits}
use Rattle.messages.proofs.fields.OrderFields.within.Goals as goal

pub returns-then-self-greatest-6 : goal.returns-then-self-greatest-6
unfolding unused_bits
returns-then-self-greatest-6 c = search rules
