use Rattle.std.proofs.Common.{◌^◌}
use Rattle.numbers.proofs.Digits.{Sofar}
use Rattle.numbers.proofs.decimal.number.Given as goal

abbrev pub invariant-loop-b : goal.invariant-loop-b
invariant-loop-b l = Sofar (2 ^ 64) l.word l.b-index l.n
