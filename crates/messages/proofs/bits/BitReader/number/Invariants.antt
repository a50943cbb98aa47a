use Rattle.std.proofs.Common.{◌≡◌, ◌*◌}
use Rattle.messages.specs.Bits.{field}
use Rattle.messages.proofs.bits.BitReader.number.Given as goal

abbrev pub invariant-loop-byte : goal.invariant-loop-byte
invariant-loop-byte l = l.window ≡ field l.self.bytes.now (8 * l.first) (8 * l.byte-index)
