-- Codes and limits, to their bits and back.
use Rattle.std.proofs.Common.{◌≡◌, ℕ, suc, ◌-◌, ◌^◌, ◌<◌, Bool, true, false, cond, eqb, ltb, ℤ, pos, negsuc, ◌-ℤ◌, Some, None, Option, sym, refl, ap, ◌∙◌, inl, inr, arith, w32, SFits, to_z, of_z}
use mir.Val.{sel}
use Rattle.std.proofs.lemmas.Int.{ints, of_z-to_z, to_z-of_z}
use Rattle.std.proofs.lemmas.Bool.{cond_both, eqb-true, eqb-false, ltb-true, ltb-false, lt-ltb}
use Rattle.std.proofs.lemmas.Bool.Decides.{nat_tests}
use Rattle.messages.specs.declared.codes.Kind.{Kind}
use Rattle.messages.specs.declared.codes.Kind.TheVariants.{Place, Cancel, Evaluate, Define}
use Rattle.contents.specs.declared.sides.OrderSide.{OrderSide}
use Rattle.contents.specs.declared.sides.OrderSide.TheVariants.{Buy, Sell}
use Rattle.contents.specs.declared.sides.LegSide.{LegSide}
use Rattle.contents.specs.declared.sides.LegSide.TheVariants.{Bought, Sold}
use Rattle.contents.specs.declared.edition.Edition.{Edition}
use Rattle.contents.specs.declared.edition.Edition.TheVariants.{Unsigned, Signed}
use Rattle.contents.specs.Editions.{edition_code, edition_coded}
use Rattle.contents.specs.Sides.{order_side_code, order_side_coded, leg_side_code, leg_side_coded}
use Rattle.messages.specs.Codes.{kind_code, kind_coded, mark_code}
use Rattle.messages.specs.Laws.{TwosComplement}
use Rattle.messages.specs.Limits.{twos_complement, limit_fits, limit_bits}

pub edition_back : (e : Edition) → edition_coded (edition_code e) ≡ Some e
edition_back Unsigned = refl
edition_back Signed = refl

pub edition_bits : (n : ℕ) (e : Edition) → edition_coded n ≡ Some e → edition_code e ≡ n
edition_bits n e =
    let Is : Option Edition → Type 0 = λ o. o ≡ Some e → edition_code e ≡ n in
    let at : (j : Edition) → eqb n (edition_code j) ≡ true → Is (Some j) = λ j h q. let same : e ≡ j = cc in ap edition_code same ∙ sym (eqb-true n (edition_code j) h) in
    cond_both (eqb n 1) (Some Unsigned) (cond (eqb n 2) (Some Signed) None) Is (at Unsigned)
    (λ _. cond_both (eqb n 2) (Some Signed) None Is (at Signed)
    (λ _ q. let z : ◌≡◌ {A = ℕ} 0 1 = cc in absurd (omega arith)))

pub kind_back : (k : Kind) → kind_coded (kind_code k) ≡ Some k
kind_back Place = refl
kind_back Cancel = refl
kind_back Evaluate = refl
kind_back Define = refl

pub kind_bits : (n : ℕ) (k : Kind) → kind_coded n ≡ Some k → kind_code k ≡ n
kind_bits n k =
    let Is : Option Kind → Type 0 = λ o. o ≡ Some k → kind_code k ≡ n in
    let at : (j : Kind) → eqb n (kind_code j) ≡ true → Is (Some j) = λ j e q. let same : k ≡ j = cc in ap kind_code same ∙ sym (eqb-true n (kind_code j) e) in
    cond_both (eqb n 1) (Some Place) (cond (eqb n 2) (Some Cancel) (cond (eqb n 3) (Some Evaluate) (cond (eqb n 4) (Some Define) None))) Is (at Place)
    (λ _. cond_both (eqb n 2) (Some Cancel) (cond (eqb n 3) (Some Evaluate) (cond (eqb n 4) (Some Define) None)) Is (at Cancel)
    (λ _. cond_both (eqb n 3) (Some Evaluate) (cond (eqb n 4) (Some Define) None) Is (at Evaluate)
    (λ _. cond_both (eqb n 4) (Some Define) None Is (at Define)
    (λ _ q. let z : ◌≡◌ {A = ℕ} 0 1 = cc in absurd (omega arith)))))

pub order_side_bits : (x : ℕ) → x < 2 → order_side_code (order_side_coded x) ≡ x
order_side_bits x h = cond_both (eqb x 0) Buy Sell (λ d. order_side_code d ≡ x) (λ e. omega (arith, eqb-true x 0 e)) (λ e. let n = eqb-false x 0 e in omega arith)

pub order_side_back : (d : OrderSide) → order_side_coded (order_side_code d) ≡ d
order_side_back Buy = refl
order_side_back Sell = refl

pub leg_side_bits : (x : ℕ) → x < 2 → leg_side_code (leg_side_coded x) ≡ x
leg_side_bits x h = cond_both (eqb x 0) Bought Sold (λ d. leg_side_code d ≡ x) (λ e. omega (arith, eqb-true x 0 e)) (λ e. let n = eqb-false x 0 e in omega arith)

pub leg_side_back : (d : LegSide) → leg_side_coded (leg_side_code d) ≡ d
leg_side_back Bought = refl
leg_side_back Sold = refl

pub mark_bits : (x : ℕ) → x < 2 → mark_code (eqb x 1) ≡ x
mark_bits x h = grind (arith, nat_tests)

pub mark_back : (b : Bool) → eqb (mark_code b) 1 ≡ b
mark_back true = refl
mark_back false = refl

twos : (x : ℕ) → x < 2 ^ 32 → twos_complement x ≡ to_z w32 x
twos x h =
    cond_both (ltb x (2 ^ 31)) (pos x) (pos x -ℤ pos (2 ^ 32)) (λ z. z ≡ to_z w32 x)
    (λ e. omega (arith, ints, ltb-true x (2 ^ 31) e))
    (λ e.
    let below : pos x -ℤ pos (2 ^ 32) ≡ negsuc (2 ^ 32 - suc x) = omega (arith, ints) in
    below ∙ sym (ap (λ b. sel b (pos x) (negsuc (2 ^ 32 - suc x))) e))

pub limit_bits_back : (x : ℕ) → x < 2 ^ 32 → limit_bits (twos_complement x) ≡ x
limit_bits_back x h = ap (of_z w32) (twos x h) ∙ of_z-to_z w32 x h

pub limit_lt : (z : ℤ) → limit_fits z ≡ true → limit_bits z < 2 ^ 32
limit_lt (pos n) h = omega (arith, ltb-true n (2 ^ 31) h)
limit_lt (negsuc n) h = omega (arith, ltb-true n (2 ^ 31) h)

fits32 : (z : ℤ) → limit_fits z ≡ true → SFits w32 z
fits32 (pos n) h = record { sfits = ltb-true n (2 ^ 31) h }
fits32 (negsuc n) h = record { sfits = ltb-true n (2 ^ 31) h }

pub limit_back : (z : ℤ) → limit_fits z ≡ true → twos_complement (limit_bits z) ≡ z
limit_back z h = twos (limit_bits z) (limit_lt z h) ∙ to_z-of_z w32 z (fits32 z h)

pub limit_fit : (x : ℕ) → x < 2 ^ 32 → limit_fits (twos_complement x) ≡ true
limit_fit x h =
    cond_both (ltb x (2 ^ 31)) (pos x) (pos x -ℤ pos (2 ^ 32)) (λ z. limit_fits z ≡ true)
    (λ e. e)
    (λ e.
    let f = ltb-false x (2 ^ 31) e in
    let below : pos x -ℤ pos (2 ^ 32) ≡ negsuc (2 ^ 32 - suc x) = omega (arith, ints) in
    ap limit_fits below ∙ lt-ltb _ _ (omega arith))

-- 32 bits and the number that they say in two's complement
pub twos_written : (x : ℕ) → x < 2 ^ 32 → TwosComplement x (twos_complement x)
twos_written x h =
    cond_both (ltb x (2 ^ 31)) (pos x) (pos x -ℤ pos (2 ^ 32)) (TwosComplement x)
    (λ e. let f = ltb-true x (2 ^ 31) e in (omega (arith, ints), omega (arith, ints), inl refl))
    (λ e. let f = ltb-false x (2 ^ 31) e in (omega (arith, ints), omega (arith, ints), inr (omega (arith, ints))))
