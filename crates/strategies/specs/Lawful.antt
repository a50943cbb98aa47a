-- The properties that every strategy has, in the words of the rule.
use Rattle.std.specs.Prelude.{◌≡◌, ℕ, ◌*◌, ◌<◌, ◌≤◌, List, [], ◌∷◌, length, get_or, slice_index_or}
use Rattle.std.specs.List.{ContainsAt as Has, AllByRecursion}
use Rattle.simple.specs.Limits.{last_series}
use Rattle.strategies.specs.declared.leg.Leg.{Leg}
use Rattle.strategies.specs.Limits.{fewest_legs, most_legs, highest_ratio, ratio_spread}

-- one holds exactly where the other does
abbrev pub Exactly : Type 0 → Type 0 → Type 0
Exactly P Q = (P → Q) × (Q → P)

-- the series of each leg is below that of every leg behind it
abbrev pub Rising : List Leg → Type 0
Rising [] = Unit {0}
Rising (l ∷ ls) = AllByRecursion (λ m. l.series < m.series) ls × Rising ls

-- a ratio that a leg may have
abbrev pub RatioFits : Leg → Type 0
RatioFits l = (1 ≤ l.ratio) × (l.ratio ≤ highest_ratio)

-- n divides the number
abbrev pub Divides : ℕ → ℕ → Type 0
Divides n m = (k : ℕ) × (m ≡ k * n)

pub record LawfulLegs (ls : List Leg) : Type 0 where
  -- there are 2 to 4 legs
  pub fewest : fewest_legs ≤ length ls
  pub most : length ls ≤ most_legs
  -- each series is at most 1,023
  pub listed : AllByRecursion (λ l. l.series ≤ last_series) ls
  -- series rise strictly from leg to leg
  pub rising : Rising ls
  -- each ratio is 1 to 8
  pub ratios : AllByRecursion RatioFits ls
  -- no ratio exceeds three times another, so neither does the largest the smallest
  pub near : (a b : Leg) → Has ls a → Has ls b → a.ratio ≤ ratio_spread * b.ratio
  -- no number above 1 divides all ratios
  pub lowest : (n : ℕ) → 1 < n → AllByRecursion (λ l. Divides n l.ratio) ls → ⊥

-- what the properties say of the legs by their places
pub record PlacedLegs (ls : List Leg) : Type 0 where
  -- the leg at a place has a series that books carry, and a ratio of 1 to 8
  pub listed : (i : ℕ) (d : Leg) → i < length ls → (get_or ls i d).series ≤ last_series
  pub ratios : (i : ℕ) (d : Leg) → i < length ls → RatioFits (slice_index_or ls i d)
  -- a later place has a higher series
  pub rising : (i j : ℕ) (d : Leg) → i < j → j < length ls → (get_or ls i d).series < (get_or ls j d).series
  -- so two places have two series
  pub apart : (i j : ℕ) (d : Leg) → i < length ls → j < length ls → (get_or ls i d).series ≡ (get_or ls j d).series → i ≡ j
