-- What is written, read again: numbers.
use Rattle.std.proofs.Common.{◌≡◌, ℕ, suc, ◌+◌, ◌^◌, ◌<◌, ◌≤◌, length, get_or, ℤ, pos, negsuc, neg_ℤ, Some, decimal, sym, ap, arith}
use lib.Signed.{mag}
use Rattle.std.specs.Fmt.{signed_decimal}
use Rattle.std.proofs.lemmas.Fmt.{decimal_nonempty, digits_decimal, digits_value-decimal}
use Rattle.std.proofs.ByRecursion.{All-get_or}
use Rattle.numbers.proofs.Digits.{own, answered}
use Rattle.numbers.proofs.Signs.{minus_checked, plain_checked, signed_answered}
use Rattle.numbers.specs.Numbers.{Digit, NumberBelow, number_in, signed_in}

decimal_below : (limit n : ℕ) → limit ≤ 2 ^ 64 → n < limit → NumberBelow limit (decimal n)
decimal_below limit n le h =
    record { some = decimal_nonempty n (omega arith); digits = digits_decimal own n (omega arith); below = omega (arith, digits_value-decimal own n (omega arith)) }

pub number_back : (n : ℕ) → n < 2 ^ 64 → number_in (decimal n) ≡ Some n
number_back n h = sym (answered (2 ^ 64) (decimal n) (Some n) (decimal_below (2 ^ 64) n (omega arith) h, sym (digits_value-decimal own n h)))

pub signed_back : (z : ℤ) → mag z < 2 ^ 63 → signed_in (signed_decimal z) ≡ Some z
signed_back (pos n) h =
    let plain : 0 < length (decimal n) → get_or (decimal n) 0 0 ≡ 45 → ⊥ = λ l e. omega (arith, All-get_or Digit (decimal n) 0 0 l (digits_decimal own n (omega arith))) in
    sym (signed_answered _ (Some (pos n)) (plain_checked _ (Some (pos n)) plain (decimal_below (2 ^ 63) n (omega arith) h, ap (λ m. pos m) (sym (digits_value-decimal own n (omega arith))))))
signed_back (negsuc n) h =
    sym (signed_answered _ (Some (negsuc n)) (minus_checked (decimal (suc n)) (Some (negsuc n)) (decimal_below (2 ^ 63 + 1) (suc n) (omega arith) (omega arith), ap (λ m. neg_ℤ (pos m)) (sym (digits_value-decimal own (suc n) (omega arith))))))
