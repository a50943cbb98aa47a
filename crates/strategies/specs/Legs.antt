-- The tests that the legs of a strategy pass.
use Rattle.std.specs.Prelude.{ℕ, ◌+◌, ◌-◌, ◌*◌, ◌%◌, min, max, Bool, true, false, not, ◌&&◌, List, [], ◌∷◌, ◌==◌, nat_le}
use Rattle.std.specs.List.{list_all, list_any, range_with_len}
use Rattle.simple.specs.Limits.{last_series}
use Rattle.strategies.specs.declared.leg.Leg.{Leg}
use Rattle.strategies.specs.Limits.{fewest_legs, most_legs, highest_ratio, ratio_spread}

-- a place that holds no leg
abbrev pub blank : Leg
blank = record { series = 0; bought = false; ratio = 0 }

-- each series is at most the last one, and higher than that of the leg before; the first is at least s
abbrev pub rising_from : ℕ → List Leg → Bool
rising_from s [] = true
rising_from s (l ∷ ls) = (nat_le s l.series && nat_le l.series last_series) && rising_from (l.series + 1) ls

-- a ratio is 1 to 8
abbrev pub ratio_fits : Leg → Bool
ratio_fits l = nat_le 1 l.ratio && nat_le l.ratio highest_ratio

-- each ratio is
abbrev pub ratios_fit : List Leg → Bool
ratios_fit = list_all ratio_fits

-- the largest ratio
abbrev pub largest : List Leg → ℕ
largest [] = 0
largest (l ∷ ls) = max l.ratio (largest ls)

-- the smallest ratio, or 8 where none is below
abbrev pub smallest : List Leg → ℕ
smallest [] = highest_ratio
smallest (l ∷ ls) = min l.ratio (smallest ls)

-- the largest ratio does not exceed three times the smallest
abbrev pub ratios_near : List Leg → Bool
ratios_near ls = nat_le (largest ls) (ratio_spread * smallest ls)

-- n divides all ratios
abbrev pub divides_all : ℕ → List Leg → Bool
divides_all n = list_all (λ l. l.ratio % n == 0)

-- one of the numbers from 2 to 8 divides all ratios; a higher one divides none of them
abbrev pub share_divisor : List Leg → Bool
share_divisor ls = list_any (λ n. divides_all n ls) (range_with_len 2 (highest_ratio - 1))

-- each ratio is 1 to 8, all are near, and no number above 1 divides all
abbrev pub ratios_lawful : List Leg → Bool
ratios_lawful ls = ratios_fit ls && (ratios_near ls && not (share_divisor ls))

-- there are 2 to 4 legs
abbrev pub count_lawful : ℕ → Bool
count_lawful n = nat_le fewest_legs n && nat_le n most_legs
