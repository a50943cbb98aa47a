use Rattle.std.proofs.Common.{◌≡◌, ◌+◌, ◌*◌, length, Some, None, arith, ltb-false, ltb-true, true-eqb, false-eqb}
use Rattle.std.proofs.ByRecursion.{All-get_or}
use Rattle.hex_bytes.specs.Bytes.{HexDigit, HexByte, byte_value}
use Rattle.hex_bytes.proofs.Hexes.{byte_answered, two_digits}
use Rattle.hex_bytes.proofs.hexadecimal.hex_byte.Goals as goal

pub returns-in_default : goal.returns-in_default
returns-in_default c =
    let never : HexByte c.args.word.now → ⊥ = λ h. omega (arith, h.two, ltb-true) in
    record { answer = byte_answered _ None never; accepts = never }

pub returns-in_default-2 : goal.returns-in_default-2
returns-in_default-2 c =
    let never : HexByte c.args.word.now → ⊥ = λ h. omega (arith, h.two, ltb-false, false-eqb) in
    record { answer = byte_answered _ None never; accepts = never }

pub returns-in_err-sixteens : goal.returns-in_err-sixteens
returns-in_err-sixteens c =
    let never : HexByte c.args.word.now → ⊥ = λ h. c.in_err-sixteens.ensures.checked (All-get_or HexDigit _ 0 0 (omega (arith, h.two)) h.digits) in
    rw c.from_residual.ensures (record { answer = byte_answered _ None never; accepts = never })

pub returns-in_err-ones : goal.returns-in_err-ones
returns-in_err-ones c =
    let never : HexByte c.args.word.now → ⊥ = λ h. c.in_err-ones.ensures.checked (All-get_or HexDigit _ 1 0 (omega (arith, h.two)) h.digits) in
    rw c.from_residual-in_err-ones.ensures (record { answer = byte_answered _ None never; accepts = never })

pub returns : goal.returns
returns c =
    let two : length c.args.word.now ≡ 2 = omega (arith, ltb-false, ltb-true, true-eqb) in
    let high = c.in_ok-sixteens.ensures.checked in
    let low = c.in_ok-ones.ensures.checked in
    let same : c.in_ok-sixteens.sixteens * 16 + c.in_ok-ones.ones ≡ byte_value c.args.word.now = omega (arith, high.1, low.1) in
    let read : HexByte c.args.word.now × (c.in_ok-sixteens.sixteens * 16 + c.in_ok-ones.ones ≡ byte_value c.args.word.now) = (two_digits _ two high.0 low.0, same) in
    record { answer = byte_answered _ (Some _) read; accepts = read }
