-- What a pass over legs has found, in the words of the library.
use native.Mathlib.Numerals.{unary_clauses}
use Rattle.std.proofs.Common.{◌≡◌, ℕ, suc, ◌+◌, ◌-◌, ◌<◌, ◌≤◌, min, max, Bool, true, false, ◌&&◌, leb, ltb, List, [], ◌∷◌, length, map, get_or, Option, refl, sym, ap, subst, ◌∙◌, inl, inr, arith}
use Rattle.std.specs.List.{fold, reduce, list_all, range_with_len, AllAdjacentBelow, IsAllAdjacentAnswer}
use Rattle.std.specs.Option.{unwrap_or}
use Rattle.std.specs.Range.{range_inclusive_len, range_inclusive_left, range_inclusive_steps}
use Rattle.std.specs.declared.ops.RangeInclusive.{RangeInclusive}
use Rattle.std.proofs.lemmas.Int.{clamps}
use Rattle.std.proofs.lemmas.Bool.{le-leb, ltb-true, lt-ltb, and_parts, and_from, cases_Bool, both_ways}
use Rattle.std.proofs.lemmas.List.FromFn.{length-range_with_len}
use Rattle.std.proofs.lemmas.Iterator.{YieldsList}
use Rattle.std.proofs.lemmas.Iterator.Consumers.{YieldsList-from_shown}
use Rattle.simple.specs.Limits.{last_series}
use Rattle.strategies.specs.declared.leg.Leg.{Leg}
use Rattle.strategies.specs.Limits.{highest_ratio}
use Rattle.strategies.specs.Legs.{blank, rising_from, largest, smallest}
use Rattle.strategies.proofs.Tests.{rises_if}
use Rattle.strategies.proofs.Places.{rising_places}

-- the series of a leg is at most the last one
abbrev listed : Leg → Bool
listed l = leb l.series last_series

-- each series is listed and below the next
rises : (s : ℕ) (ls : List Leg) → list_all listed ls ≡ true → ((d : Leg) → 0 < length ls → s ≤ (get_or ls 0 d).series) → AllAdjacentBelow (λ a b. true ≡ ltb a.series b.series) ls (length ls) → rising_from s ls ≡ true
rises s [] all first next = refl
rises s (l ∷ ls) all first next =
    let own = and_parts (listed l) (list_all listed ls) all in
    and_from (leb s l.series && listed l) (rising_from (l.series + 1) ls)
    (and_from (leb s l.series) (listed l) (le-leb s l.series (first blank (omega arith))) own.0)
    (rises (l.series + 1) ls own.1 (λ d some. let up = ltb-true l.series (get_or ls 0 d).series (sym (next 0 d (omega arith))) in omega arith) (λ k d lt. let up = next (k + 1) d (omega arith) in let told = simp unary_clauses at up in simp unary_clauses told))

pub series_rising : (ls : List Leg) (all r : Bool) → all ≡ true → all ≡ list_all listed ls → IsAllAdjacentAnswer (λ a b t. t ≡ ltb a.series b.series) ls r → r ≡ rising_from 0 ls
series_rising ls all true yes' is next = sym (rises 0 ls (sym is ∙ yes') (λ d some. omega arith) next)
series_rising ls all false yes' is fall =
    elim (cases_Bool (rising_from 0 ls)) [
      | inl e ↦
          let up = rising_places ls (rises_if 0 ls e).2 fall.0 (fall.0 + 1) blank (omega arith) fall.1 in
          absurd (both_ways _ (sym (fall.2 blank)) (lt-ltb _ _ up))
      | inr e ↦ sym e
    ]

-- some series is not listed
listed_only : (s : ℕ) (ls : List Leg) → rising_from s ls ≡ true → list_all listed ls ≡ true
listed_only s [] h = refl
listed_only s (l ∷ ls) h =
    let both = and_parts (leb s l.series && listed l) (rising_from (l.series + 1) ls) h in
    and_from (listed l) (list_all listed ls) (and_parts (leb s l.series) (listed l) both.0).1 (listed_only (l.series + 1) ls both.1)

pub series_unlisted : (ls : List Leg) (all : Bool) → all ≡ false → all ≡ list_all listed ls → all ≡ rising_from 0 ls
series_unlisted ls all no' is =
    elim (cases_Bool (rising_from 0 ls)) [
      | inl e ↦ absurd (both_ways (list_all listed ls) (sym is ∙ no') (listed_only 0 ls e))
      | inr e ↦ no' ∙ sym e
    ]

-- the numbers of an inclusive range
abbrev inclusive_steps : RangeInclusive ℕ → Option ℕ → RangeInclusive ℕ → Type 0
inclusive_steps = range_inclusive_steps (λ a b. b - a) (λ a b. b ≡ a + 1)

abbrev gap : ℕ → ℕ → ℕ
gap a b = b - a

abbrev numbers : ℕ → ℕ → Bool → List ℕ
numbers a b spent = range_with_len a (range_inclusive_len gap a b spent)

next_numbers : (a s b : ℕ) (spent : Bool) → (spent ≡ false → s ≡ a + 1) → range_with_len (a + 1) (range_inclusive_len gap s b spent) ≡ numbers s b spent
next_numbers a s b true next = refl
next_numbers a s b false next = ap (λ m. range_with_len m (range_inclusive_len gap s b false)) (sym (next refl))

inclusive : (s : RangeInclusive ℕ) → YieldsList inclusive_steps (λ x. x) s (numbers s.start s.end s.exhausted)
inclusive =
    YieldsList-from_shown inclusive_steps (λ x. x) (λ s. numbers s.start s.end s.exhausted)
    (λ s t st. let none = st.1.0 in let n = length-range_with_len s.start (range_inclusive_left gap s) in omega arith)
    (λ s x t st.
    let first = st.1.0 in
    let more : range_inclusive_left gap s ≡ suc (range_inclusive_left gap t) = omega (arith, st.1.1) in
    ap (range_with_len s.start) more ∙ ap (λ xs. s.start ∷ xs) (next_numbers s.start t.start t.end t.exhausted st.1.2) ∙ ap (λ y. y ∷ numbers t.start t.end t.exhausted) (sym first))

pub two_to_eight : {s : RangeInclusive ℕ} → s.start ≡ 2 → s.end ≡ highest_ratio → s.exhausted ≡ false → YieldsList inclusive_steps (λ x. x) s (range_with_len 2 (highest_ratio - 1))
two_to_eight {s} low high fresh =
    let is : numbers s.start s.end s.exhausted ≡ range_with_len 2 (highest_ratio - 1) = rw (low, high, fresh) in
    subst (YieldsList inclusive_steps (λ x. x) s) is (inclusive s)

-- the largest of a number and of the ratios
largest_fold : (n : ℕ) (ls : List Leg) → fold max n (map (λ l. l.ratio) ls) ≡ max n (largest ls)
largest_fold n [] = omega (arith, clamps)
largest_fold n (l ∷ ls) = let rest = largest_fold (max n l.ratio) ls in omega (arith, clamps)

-- and of the ratios alone
pub largest_found : (ls : List Leg) → unwrap_or (reduce max (map (λ l. l.ratio) ls)) 0 ≡ largest ls
largest_found [] = refl
largest_found (l ∷ ls) = largest_fold l.ratio ls

-- the smallest of a number and of the ratios
pub smallest_fold : (n : ℕ) (ls : List Leg) → n ≤ highest_ratio → fold (λ m l. min m l.ratio) n ls ≡ min n (smallest ls)
smallest_fold n [] low = omega (arith, clamps)
smallest_fold n (l ∷ ls) low = let rest = smallest_fold (min n l.ratio) ls (omega (arith, clamps)) in omega (arith, clamps)

-- the smallest ratio is within the bounds of a ratio
pub smallest_within : (ls : List Leg) → smallest ls ≤ highest_ratio
smallest_within [] = omega arith
smallest_within (l ∷ ls) = let rest = smallest_within ls in omega (arith, clamps)
