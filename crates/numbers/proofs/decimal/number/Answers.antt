use Rattle.std.proofs.Common.{◌^◌, ◌<◌, length, Some, None, arith, true-eqb, false-eqb}
use Rattle.numbers.specs.Numbers.{NumberBelow}
use Rattle.numbers.proofs.Digits.{answered, stuck, all_read}
use Rattle.numbers.proofs.decimal.number.Goals as goal

pub returns-then-is_empty : goal.returns-then-is_empty
returns-then-is_empty c =
    let never : NumberBelow (2 ^ 64) c.args.word.now → ⊥ = λ is. omega (arith, is.some, true-eqb _ 0 c.if-is_empty.ensures) in
    record { answer = answered (2 ^ 64) _ None never; accepts = never }

pub returns-in_err-n : goal.returns-in_err-n
returns-in_err-n c =
    let never : NumberBelow (2 ^ 64) c.args.word.now → ⊥ = stuck _ _ _ _ c.loop-b.invariant c.loop-b-test.true c.in_err-n.ensures in
    rw c.from_residual.ensures (record { answer = answered (2 ^ 64) _ None never; accepts = never })

pub returns : goal.returns
returns c =
    let some : 0 < length c.args.word.now = omega (arith, false-eqb _ 0 c.if-is_empty.ensures) in
    let read = all_read _ _ _ _ c.loop-b.invariant some c.loop-b-test.false in
    record { answer = answered (2 ^ 64) _ (Some c.loop-b.n) read; accepts = read }
