use Rattle.std.proofs.Common.{◌≡◌, ◌+◌, ◌^◌, ◌<◌, length, get_or, pos, neg_ℤ, None, arith, rules, tests, lit≤, ltb-false, ltb-true}
use Rattle.numbers.proofs.Signs.{raised, narrowed, minus_read, plain_checked, signed_answered}
use Rattle.numbers.proofs.decimal.signed_number.Goals as goal
use Rattle.numbers.proofs.decimal.signed_number.Goals.{in_default-via-then-word-lt1, in_default-via-else-word-lt1+in_default-1}

pub returns-in_err-number-in-45 : goal.returns-in_err-number-in-45
returns-in_err-number-in-45 c =
    let minus : get_or c.args.word.now 0 0 ≡ 45 = omega arith in
    let some : 0 < length c.args.word.now = omega (arith, ltb-false) in
    let none = minus_read _ None some minus (λ h. c.in_err-number-in-45.ensures.accepts (raised (lit≤ tt) h)) in
    rw c.from_residual.ensures (record { answer = signed_answered _ None none; accepts = none })

pub returns-in_ok-number-in-45 : goal.returns-in_ok-number-in-45
returns-in_ok-number-in-45 c =
    let minus : get_or c.args.word.now 0 0 ≡ 45 = omega arith in
    let some : 0 < length c.args.word.now = omega (arith, ltb-false) in
    let read = minus_read _ _ some minus (narrowed (λ n. neg_ℤ (pos n)) (2 ^ 63 + 1) _ _ _ (omega arith) c.in_ok-number-in-45.ensures.accepts (search (rules, tests))) in
    record { answer = signed_answered _ _ read; accepts = read }

pub returns-in_err-number-in_default : goal.returns-in_err-number-in_default
returns-in_err-number-in_default c =
    let plain : 0 < length c.args.word.now → get_or c.args.word.now 0 0 ≡ 45 → ⊥ = λ l e. elim c.in_default.branch [ in_default-via-then-word-lt1 w ↦ omega (arith, ltb-true) | in_default-via-else-word-lt1+in_default-1 w ↦ omega arith ] in
    let none = plain_checked _ None plain (λ h. c.in_err-number-in_default.ensures.accepts (raised (lit≤ tt) h)) in
    rw c.from_residual-in_err-number-in_default.ensures (record { answer = signed_answered _ None none; accepts = none })

pub returns-in_ok-number-in_default : goal.returns-in_ok-number-in_default
returns-in_ok-number-in_default c =
    let plain : 0 < length c.args.word.now → get_or c.args.word.now 0 0 ≡ 45 → ⊥ = λ l e. elim c.in_default.branch [ in_default-via-then-word-lt1 w ↦ omega (arith, ltb-true) | in_default-via-else-word-lt1+in_default-1 w ↦ omega arith ] in
    let read = plain_checked _ _ plain (narrowed (λ n. pos n) (2 ^ 63) _ _ _ (omega arith) c.in_ok-number-in_default.ensures.accepts (search (rules, tests))) in
    record { answer = signed_answered _ _ read; accepts = read }
