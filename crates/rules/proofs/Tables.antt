-- The strategies of a table, by number.
use Rattle.std.proofs.Common.{◌≡◌, ℕ, zero, suc, Bool, true, false, cond, not, ◌&&◌, ◌⊎◌, List, [], ◌∷◌, ◌++◌, length, Some, None, Option, sym, refl, ap, ◌∙◌, inl, inr, arith}
use Rattle.std.specs.List.{slice_get}
use Rattle.std.specs.Result.{result_ok}
use Rattle.std.proofs.lemmas.Bool.{and_parts}
use Rattle.refusals.specs.declared.reason.Reason.{Reason}
use Rattle.strategies.specs.declared.leg.Leg.{Leg}
use Rattle.strategies.specs.declared.row.StrategyRow.{StrategyRow}
use Rattle.strategies.specs.Legs.{count_lawful, rising_from, ratios_fit, ratios_near, share_divisor, ratios_lawful}
use Rattle.strategies.specs.Rows.{row_legs, row_fault}
use Rattle.strategies.specs.Strategies.{legs_or, checked}
use Rattle.strategies.proofs.Tests.{rises_if, fits_tell}
use Rattle.rules.specs.States.{legs_in, strategy_at}
use Rattle.rules.proofs.Ready.{Steady}

none_some : {X A : Type 0} (a : A) → None ≡ Some a → X
none_some a e = let z : ◌≡◌ {A = ℕ} 0 1 = cc in absurd (omega arith)

-- a row that breaks no rule
unbroken : (c r q : Bool) (x y z : Reason) → cond c (cond r (cond q None (Some x)) (Some y)) (Some z) ≡ None → (r ≡ true) × (q ≡ true)
unbroken true true true x y z e = (refl, refl)
unbroken true true false x y z e = none_some x (sym e)
unbroken true false q x y z e = none_some y (sym e)
unbroken false r q x y z e = none_some z (sym e)

legs_found : (row : StrategyRow) (legs : List Leg) → result_ok (checked row) ≡ Some legs → (row_fault row ≡ None) × (legs ≡ row_legs row)
legs_found row legs = go (row_fault row) refl
  where
    go : (o : Option Reason) → row_fault row ≡ o → result_ok (legs_or o (row_legs row)) ≡ Some legs → (row_fault row ≡ None) × (legs ≡ row_legs row)
    go None e f = let same : row_legs row ≡ legs = cc in (e, sym same)
    go (Some why) e f = none_some legs f

row_steady : (row : StrategyRow) → row_fault row ≡ None → Steady (row_legs row)
row_steady row e =
    let ls : List Leg = row_legs row in
    let tests = unbroken (count_lawful row.count) (rising_from 0 ls) (ratios_lawful ls) _ _ _ e in
    let rise = rises_if 0 ls tests.0 in
    let fit = (fits_tell ls).0 (and_parts (ratios_fit ls) (ratios_near ls && not (share_divisor ls)) tests.1).0 in
    record { listed = rise.1; rising = rise.2; ratios = fit }

pub steady : (rows : List StrategyRow) (n : ℕ) (legs : List Leg) → strategy_at rows n ≡ Some legs → Steady legs
unfolding strategy_at
steady rows n legs = go (slice_get rows n)
  where
    go : (o : Option StrategyRow) → legs_in o ≡ Some legs → Steady legs
    go None e = none_some legs e
    go (Some row) e = let found = legs_found row legs e in rw found.1 (row_steady row found.0)

-- a row that was added is found under the number of those before it, and the others as before
nth_push : (rows : List StrategyRow) (row : StrategyRow) → slice_get (rows ++ (row ∷ [])) (length rows) ≡ Some row
nth_push [] row = refl
nth_push (r ∷ rows) row = nth_push rows row

nth_before : (rows : List StrategyRow) (row r : StrategyRow) (n : ℕ) → slice_get rows n ≡ Some r → slice_get (rows ++ (row ∷ [])) n ≡ Some r
nth_before [] row r n e = none_some r e
nth_before (x ∷ rows) row r zero e = e
nth_before (x ∷ rows) row r (suc n) e = nth_before rows row r n e

nth_cases : (rows : List StrategyRow) (row r : StrategyRow) (n : ℕ) → slice_get (rows ++ (row ∷ [])) n ≡ Some r → (slice_get rows n ≡ Some r) ⊎ ((n ≡ length rows) × (row ≡ r))
nth_cases [] row r zero e = let same : row ≡ r = cc in inr (refl, same)
nth_cases [] row r (suc n) e = none_some r e
nth_cases (x ∷ rows) row r zero e = inl e
nth_cases (x ∷ rows) row r (suc n) e = elim (nth_cases rows row r n e) [ inl old ↦ inl old | inr new ↦ inr (ap suc new.0, new.1) ]

module _ (rows : List StrategyRow) (row : StrategyRow) where
  pub strategy_added : row_fault row ≡ None → strategy_at (rows ++ (row ∷ [])) (length rows) ≡ Some (row_legs row)
  unfolding strategy_at
  strategy_added e = rw (nth_push rows row, e)

  pub strategy_before : (n : ℕ) (legs : List Leg) → strategy_at rows n ≡ Some legs → strategy_at (rows ++ (row ∷ [])) n ≡ Some legs
  unfolding strategy_at
  strategy_before n legs = go (slice_get rows n) refl
    where
      go : (o : Option StrategyRow) → slice_get rows n ≡ o → legs_in o ≡ Some legs → legs_in (slice_get (rows ++ (row ∷ [])) n) ≡ Some legs
      go None e f = none_some legs f
      go (Some r) e f = ap legs_in (nth_before rows row r n e) ∙ f

  pub strategy_cases : (n : ℕ) (legs : List Leg) → strategy_at (rows ++ (row ∷ [])) n ≡ Some legs → (strategy_at rows n ≡ Some legs) ⊎ ((n ≡ length rows) × (legs ≡ row_legs row))
  unfolding strategy_at
  strategy_cases n legs = go (slice_get (rows ++ (row ∷ [])) n) refl
    where
      go : (o : Option StrategyRow) → slice_get (rows ++ (row ∷ [])) n ≡ o → legs_in o ≡ Some legs → (legs_in (slice_get rows n) ≡ Some legs) ⊎ ((n ≡ length rows) × (legs ≡ row_legs row))
      go None e f = none_some legs f
      go (Some r) e f =
          elim (nth_cases rows row r n e) [
            | inl old ↦ inl (ap legs_in old ∙ f)
            | inr new ↦ inr (new.0, (legs_found r legs f).1 ∙ sym (ap row_legs new.1))
          ]
