-- What is known of the leg at a place of lawful legs.
use Rattle.std.proofs.Common.{◌≡◌, ℕ, zero, suc, ◌<◌, ◌≤◌, List, [], ◌∷◌, length, get_or, inl, inr, arith}
use Rattle.std.proofs.ByRecursion.{All-get_or}
use Rattle.std.proofs.lemmas.Bool.{cases_order}
use Rattle.simple.specs.Limits.{last_series}
use Rattle.strategies.specs.declared.leg.Leg.{Leg}
use Rattle.strategies.specs.Lawful.{Rising, RatioFits, LawfulLegs, PlacedLegs}

-- a later place has a higher series
pub rising_places : (ls : List Leg) → Rising ls → (i j : ℕ) (d : Leg) → i < j → j < length ls → (get_or ls i d).series < (get_or ls j d).series
rising_places [] rising i j d before within = omega arith
rising_places (l ∷ ls) rising i zero d before within = omega arith
rising_places (l ∷ ls) rising zero (suc j) d before within = All-get_or (λ m. l.series < m.series) ls j d (omega arith) rising.0
rising_places (l ∷ ls) rising (suc i) (suc j) d before within = rising_places ls rising.1 i j d (omega arith) (omega arith)

module _ (ls : List Leg) (law : LawfulLegs ls) where
  pub series_listed : (i : ℕ) (d : Leg) → i < length ls → (get_or ls i d).series ≤ last_series
  series_listed i d within = All-get_or (λ l. l.series ≤ last_series) ls i d within law.listed

  pub ratio_fit : (i : ℕ) (d : Leg) → i < length ls → RatioFits (get_or ls i d)
  ratio_fit i d within = All-get_or RatioFits ls i d within law.ratios

  pub series_apart : (i j : ℕ) (d : Leg) → i < length ls → j < length ls → (get_or ls i d).series ≡ (get_or ls j d).series → i ≡ j
  series_apart i j d at_i at_j same =
      elim (cases_order i j) [
        | inl e ↦ e
        | inr (inl before) ↦ let up = rising_places ls law.rising i j d before at_j in omega arith
        | inr (inr behind) ↦ let up = rising_places ls law.rising j i d behind at_i in omega arith
      ]

  pub placed : PlacedLegs ls
  placed = record { listed = series_listed; ratios = ratio_fit; rising = rising_places ls law.rising; apart = series_apart }
