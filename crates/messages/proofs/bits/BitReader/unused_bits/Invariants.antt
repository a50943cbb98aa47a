use Rattle.messages.specs.Layout.{unused_bits}
use Rattle.messages.specs.Passing.{Passed}
use Rattle.messages.proofs.bits.BitReader.unused_bits.Given as goal

abbrev pub invariant-loop : goal.invariant-loop
invariant-loop l = Passed l.initial.self l.self l.counter (unused_bits l.initial.self.at l.counter)
