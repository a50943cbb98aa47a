-- The tests are passed exactly by legs that have the properties.
use Rattle.std.proofs.Common.{◌≡◌, ℕ, ◌+◌, ◌*◌, ◌<◌, ◌≤◌, min, max, true, not, ◌&&◌, leb, List, [], ◌∷◌, length, Decides, refl, arith}
use Rattle.std.specs.List.{ContainsAt as Has, AllByRecursion}
use Rattle.std.proofs.ByRecursion.{All-weaker, all-has, all_has_itself, Decides-by_and}
use Rattle.std.proofs.lemmas.Int.{clamps}
use Rattle.std.proofs.lemmas.Bool.{leb-true, le-leb, and_parts, and_from, not-true, not_from_false}
use Rattle.simple.specs.Limits.{last_series}
use Rattle.strategies.specs.declared.leg.Leg.{Leg}
use Rattle.strategies.specs.Limits.{fewest_legs, most_legs, highest_ratio, ratio_spread}
use Rattle.strategies.specs.Legs.{rising_from, ratio_fits, ratios_fit, largest, smallest, ratios_near, share_divisor, ratios_lawful, count_lawful}
use Rattle.strategies.specs.Lawful.{Rising, RatioFits, LawfulLegs}
use Rattle.strategies.proofs.Divisors.{lowest_if, lowest_only}

-- the series of a list that starts at s or above
pub rises_if : (s : ℕ) (ls : List Leg) → rising_from s ls ≡ true → AllByRecursion (λ l. s ≤ l.series) ls × AllByRecursion (λ l. l.series ≤ last_series) ls × Rising ls
rises_if s [] h = (tt, tt, tt)
rises_if s (l ∷ ls) h =
    let both = and_parts (leb s l.series && leb l.series last_series) (rising_from (l.series + 1) ls) h in
    let own = and_parts (leb s l.series) (leb l.series last_series) both.0 in
    let low = leb-true s l.series own.0 in
    let rest = rises_if (l.series + 1) ls both.1 in (
      (low, All-weaker (λ m. l.series + 1 ≤ m.series) (λ m. s ≤ m.series) (λ m k. omega arith) ls rest.0),
      (leb-true l.series last_series own.1, rest.1),
      (All-weaker (λ m. l.series + 1 ≤ m.series) (λ m. l.series < m.series) (λ m k. omega arith) ls rest.0, rest.2),
    )

rises_only : (s : ℕ) (ls : List Leg) → AllByRecursion (λ l. s ≤ l.series) ls → AllByRecursion (λ l. l.series ≤ last_series) ls → Rising ls → rising_from s ls ≡ true
rises_only s [] above listed rising = refl
rises_only s (l ∷ ls) above listed rising =
    and_from (leb s l.series && leb l.series last_series) (rising_from (l.series + 1) ls)
    (and_from (leb s l.series) (leb l.series last_series) (le-leb s l.series above.0) (le-leb l.series last_series listed.0))
    (rises_only (l.series + 1) ls (All-weaker (λ m. l.series < m.series) (λ m. l.series + 1 ≤ m.series) (λ m k. omega arith) ls rising.0) listed.1 rising.1)

from_zero : (ls : List Leg) → AllByRecursion (λ l. 0 ≤ l.series) ls
from_zero [] = tt
from_zero (l ∷ ls) = (omega arith, from_zero ls)

-- each ratio is within its bounds
fit_tells : (l : Leg) → Decides (ratio_fits l) (RatioFits l)
fit_tells l = (
  λ e. let both = and_parts (leb 1 l.ratio) (leb l.ratio highest_ratio) e in (leb-true 1 l.ratio both.0, leb-true l.ratio highest_ratio both.1),
  λ h. and_from (leb 1 l.ratio) (leb l.ratio highest_ratio) (le-leb 1 l.ratio h.0) (le-leb l.ratio highest_ratio h.1),
)

pub fits_tell : (ls : List Leg) → Decides (ratios_fit ls) (AllByRecursion RatioFits ls)
fits_tell ls = Decides-by_and ratio_fits RatioFits ratios_fit fit_tells refl (λ _ _. refl) ls

-- the largest ratio is the least number that none exceeds, and the smallest the greatest that exceeds none
largest_above : (ls : List Leg) → AllByRecursion (λ a. a.ratio ≤ largest ls) ls
largest_above [] = tt
largest_above (l ∷ ls) =
    (omega (arith, clamps), All-weaker (λ a. a.ratio ≤ largest ls) (λ a. a.ratio ≤ max l.ratio (largest ls)) (λ a h. omega (arith, clamps)) ls (largest_above ls))

largest_below : (n : ℕ) (ls : List Leg) → AllByRecursion (λ a. a.ratio ≤ n) ls → largest ls ≤ n
largest_below n [] all = omega arith
largest_below n (l ∷ ls) all = let own = all.0 in let rest = largest_below n ls all.1 in omega (arith, clamps)

smallest_below : (ls : List Leg) → AllByRecursion (λ b. smallest ls ≤ b.ratio) ls
smallest_below [] = tt
smallest_below (l ∷ ls) =
    (omega (arith, clamps), All-weaker (λ b. smallest ls ≤ b.ratio) (λ b. min l.ratio (smallest ls) ≤ b.ratio) (λ b h. omega (arith, clamps)) ls (smallest_below ls))

smallest_above : (n : ℕ) (ls : List Leg) → n ≤ ratio_spread * highest_ratio → AllByRecursion (λ b. n ≤ ratio_spread * b.ratio) ls → n ≤ ratio_spread * smallest ls
smallest_above n [] most all = most
smallest_above n (l ∷ ls) most all = let own = all.0 in let rest = smallest_above n ls most all.1 in omega (arith, clamps)

-- no ratio exceeds three times another exactly where the largest does not exceed three times the smallest
near_if : (ls : List Leg) → ratios_near ls ≡ true → (a b : Leg) → Has ls a → Has ls b → a.ratio ≤ ratio_spread * b.ratio
near_if ls h a b at_a at_b =
    let near = leb-true (largest ls) (ratio_spread * smallest ls) h in
    let high = all-has (λ m. m.ratio ≤ largest ls) ls a (largest_above ls) at_a in
    let low = all-has (λ m. smallest ls ≤ m.ratio) ls b (smallest_below ls) at_b in
    omega arith

near_only : (ls : List Leg) → AllByRecursion RatioFits ls → ((a b : Leg) → Has ls a → Has ls b → a.ratio ≤ ratio_spread * b.ratio) → ratios_near ls ≡ true
near_only ls fits near =
    le-leb (largest ls) (ratio_spread * smallest ls)
    (largest_below (ratio_spread * smallest ls) ls
    (All-weaker (Has ls) (λ a. a.ratio ≤ ratio_spread * smallest ls)
    (λ a at_a.
    let own = (all-has RatioFits ls a fits at_a).1 in
    smallest_above a.ratio ls (omega arith) (All-weaker (Has ls) (λ b. a.ratio ≤ ratio_spread * b.ratio) (λ b at_b. near a b at_a at_b) ls (all_has_itself ls)))
    ls (all_has_itself ls)))

-- legs that pass the tests have the properties
pub lawful_if : (ls : List Leg) → count_lawful (length ls) ≡ true → rising_from 0 ls ≡ true → ratios_lawful ls ≡ true → LawfulLegs ls
lawful_if ls counted rises fit =
    let count = and_parts (leb fewest_legs (length ls)) (leb (length ls) most_legs) counted in
    let series = rises_if 0 ls rises in
    let ratios = and_parts (ratios_fit ls) (ratios_near ls && not (share_divisor ls)) fit in
    let terms = and_parts (ratios_near ls) (not (share_divisor ls)) ratios.1 in
    let fits = (fits_tell ls).0 ratios.0 in
    let few = leb-true fewest_legs (length ls) count.0 in
    record {
      fewest = few;
      most = leb-true (length ls) most_legs count.1;
      listed = series.1;
      rising = series.2;
      ratios = fits;
      near = near_if ls terms.0;
      lowest = lowest_if ls (omega arith) fits (not-true (share_divisor ls) terms.1);
    }

-- legs that have the properties pass the tests
pub rising_only : (ls : List Leg) → LawfulLegs ls → rising_from 0 ls ≡ true
rising_only ls law = rises_only 0 ls (from_zero ls) law.listed law.rising

pub ratios_only : (ls : List Leg) → LawfulLegs ls → ratios_lawful ls ≡ true
ratios_only ls law =
    and_from (ratios_fit ls) (ratios_near ls && not (share_divisor ls)) ((fits_tell ls).1 law.ratios)
    (and_from (ratios_near ls) (not (share_divisor ls)) (near_only ls law.ratios law.near) (not_from_false (share_divisor ls) (lowest_only ls law.lowest)))

pub count_only : (n : ℕ) → fewest_legs ≤ n → n ≤ most_legs → count_lawful n ≡ true
count_only n few most = and_from (leb fewest_legs n) (leb n most_legs) (le-leb fewest_legs n few) (le-leb n most_legs most)
