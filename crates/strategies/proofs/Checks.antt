-- A row breaks no rule exactly where it is lawful.
use Rattle.std.proofs.Common.{◌≡◌, ℕ, ◌≤◌, min, Bool, true, false, cond, leb, length, is_some, Some, None, Option, refl, ap, ◌∙◌, arith}
use Rattle.std.proofs.Math.Nat.{min-eq_left}
use Rattle.std.proofs.lemmas.Bool.{leb-true, and_parts, both_ways, false≢true}
use Rattle.refusals.specs.declared.reason.Reason.{Reason}
use Rattle.refusals.specs.declared.reason.Reason.TheVariants.{LegCount, Series, Ratio}
use Rattle.strategies.specs.declared.row.StrategyRow.{StrategyRow}
use Rattle.strategies.specs.Limits.{fewest_legs, most_legs}
use Rattle.strategies.specs.Legs.{count_lawful, rising_from, ratios_lawful}
use Rattle.strategies.specs.Lawful.{Exactly}
use Rattle.strategies.specs.Rows.{row_legs, row_fault, LawfulRow}
use Rattle.strategies.proofs.Tests.{lawful_if, rising_only, ratios_only, count_only}

-- a test that was passed
passed : (t : Bool) (rest : Option Reason) (why : Reason) → None ≡ cond t rest (Some why) → (t ≡ true) × (None ≡ rest)
passed true rest why h = (refl, h)
passed false rest why h = let z : ◌≡◌ {A = ℕ} 0 1 = cc in absurd (omega arith)

-- a lawful row breaks no rule
pub row_stands : (r : StrategyRow) → LawfulRow r → row_fault r ≡ None
row_stands r law =
    let ls = row_legs r in
    let count = count_only r.count law.fewest law.most in
    let rising = rising_only ls law.legs in
    let ratios = ratios_only ls law.legs in
    rw (count, rising, ratios)

-- a row that breaks no rule is lawful: it has as many legs as it counts, since it counts no more than there are
pub row_lawful : (r : StrategyRow) → length (row_legs r) ≡ min r.count most_legs → None ≡ row_fault r → LawfulRow r
row_lawful r all h =
    let ls = row_legs r in
    let few = passed (count_lawful r.count) (cond (rising_from 0 ls) (cond (ratios_lawful ls) None (Some Ratio)) (Some Series)) LegCount h in
    let up = passed (rising_from 0 ls) (cond (ratios_lawful ls) None (Some Ratio)) Series few.1 in
    let fit = passed (ratios_lawful ls) None Ratio up.1 in
    let count = and_parts (leb fewest_legs r.count) (leb r.count most_legs) few.0 in
    let most = leb-true r.count most_legs count.1 in
    record {
      fewest = leb-true fewest_legs r.count count.0;
      most = most;
      legs = lawful_if ls (ap count_lawful (all ∙ min-eq_left most) ∙ few.0) up.0 fit.0;
    }

-- an answer that names a rule
pub exactly_some : (r : StrategyRow) (why : Reason) → Some why ≡ row_fault r → Exactly (false ≡ true) (LawfulRow r)
exactly_some r why h = (λ e. absurd (false≢true e), λ law. let z : Some why ≡ None = h ∙ row_stands r law in absurd (both_ways (is_some (Some why)) (ap is_some z) refl))

-- an answer that names none
pub exactly_none : (r : StrategyRow) → length (row_legs r) ≡ min r.count most_legs → None ≡ row_fault r → Exactly (true ≡ true) (LawfulRow r)
exactly_none r all h = (λ _. row_lawful r all h, λ _. refl)

-- what each test says of the rule that is broken first
module _ (r : StrategyRow) (few : fewest_legs ≤ r.count) (most : r.count ≤ most_legs) where
  module _ (rises : true ≡ rising_from 0 (row_legs r)) where
    pub ratio_fault : false ≡ ratios_lawful (row_legs r) → Some Ratio ≡ row_fault r
    ratio_fault unfit = let count = count_only r.count few most in rw (count, ← rises, ← unfit)

    pub no_fault : true ≡ ratios_lawful (row_legs r) → None ≡ row_fault r
    no_fault fit = let count = count_only r.count few most in rw (count, ← rises, ← fit)
