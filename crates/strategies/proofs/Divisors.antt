-- Which numbers divide all ratios.
use Rattle.std.proofs.Common.{◌≡◌, ℕ, zero, suc, ◌-◌, ◌*◌, ◌/◌, ◌%◌, ◌<◌, ◌≤◌, true, false, eqb, List, [], ◌∷◌, length, get_or, Decides, refl, ap, ◌∙◌, subst, inl, inr, suc-mul, div-add-mod', zero-mul, arith}
use native.Mathlib.Nat.{mul-mod_left}
use Rattle.std.specs.List.{AllByRecursion, range_with_len}
use Rattle.std.proofs.lemmas.List.Folds.{list_any_at, Any-from_list_any}
use Rattle.std.proofs.lemmas.List.FromFn.{get_or-range_with_len}
use Rattle.std.proofs.lemmas.Bool.{cases_Bool, both_ways, eqb-true, eq-eqb}
use Rattle.std.proofs.ByRecursion.{Decides-by_and}
use Rattle.strategies.specs.declared.leg.Leg.{Leg}
use Rattle.strategies.specs.Limits.{highest_ratio}
use Rattle.strategies.specs.Legs.{divides_all, share_divisor}
use Rattle.strategies.specs.Lawful.{RatioFits, Divides}

-- a number from 2 to 8 that divides all ratios is found
pub divisor_found : (n : ℕ) (ls : List Leg) → 2 ≤ n → n ≤ highest_ratio → divides_all n ls ≡ true → share_divisor ls ≡ true
divisor_found n ls low high e =
    let at = get_or-range_with_len 2 (highest_ratio - 1) (n - 2) 0 (omega arith) in
    let is : n ≡ get_or (range_with_len 2 (highest_ratio - 1)) (n - 2) 0 = omega arith in
    list_any_at (λ m. divides_all m ls) (range_with_len 2 (highest_ratio - 1)) (n - 2) 0 (omega arith) (subst (λ m. divides_all m ls ≡ true) is e)

-- a remainder of 0 is what divides says
divides_one : (n m : ℕ) → Decides (eqb (m % n) 0) (Divides n m)
divides_one n m = (
  λ e. (m / n, let whole = div-add-mod' m n in let none = eqb-true (m % n) 0 e in omega arith),
  λ d. eq-eqb (m % n) 0 (ap (λ x. x % n) d.1 ∙ mul-mod_left d.0 n),
)

divides_tells : (n : ℕ) (ls : List Leg) → Decides (divides_all n ls) (AllByRecursion (λ l. Divides n l.ratio) ls)
divides_tells n ls =
    Decides-by_and (λ l. eqb (l.ratio % n) 0) (λ l. Divides n l.ratio) (divides_all n) (λ l. divides_one n l.ratio) refl (λ _ _. refl) ls

-- no number above another divides it
divisor_within : (n m k : ℕ) → 1 ≤ m → m ≡ k * n → n ≤ m
divisor_within n m zero some e = omega (arith, zero-mul n)
divisor_within n m (suc k) some e = omega (arith, suc-mul k n)

-- no number above 1 divides all ratios exactly where the test finds none
pub lowest_if : (ls : List Leg) → 1 ≤ length ls → AllByRecursion RatioFits ls → share_divisor ls ≡ false → (n : ℕ) → 1 < n → AllByRecursion (λ l. Divides n l.ratio) ls → ⊥
lowest_if [] some fits none n above all = omega arith
lowest_if (l ∷ ls) some fits none n above all =
    let within = divisor_within n l.ratio all.0.0 fits.0.0 all.0.1 in
    let most = fits.0.1 in
    both_ways (share_divisor (l ∷ ls)) none (divisor_found n (l ∷ ls) (omega arith) (omega arith) ((divides_tells n (l ∷ ls)).1 all))

pub lowest_only : (ls : List Leg) → ((n : ℕ) → 1 < n → AllByRecursion (λ l. Divides n l.ratio) ls → ⊥) → share_divisor ls ≡ false
lowest_only ls lowest =
    elim (cases_Bool (share_divisor ls)) [
      | inl e ↦
          let found = Any-from_list_any (λ m. divides_all m ls) (range_with_len 2 (highest_ratio - 1)) e in
          let at = get_or-range_with_len 2 (highest_ratio - 1) found.0 found.1 found.2 in
          let same = found.3 in
          absurd (lowest found.1 (omega arith) ((divides_tells found.1 ls).0 found.4))
      | inr e ↦ e
    ]
