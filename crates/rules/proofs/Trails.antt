-- Step after step, as a trail: each record is of the step from what the steps before it left.
use Rattle.std.proofs.Common.{◌≡◌, ℕ, zero, suc, ◌≤◌, true, false, List, [], ◌∷◌, length, Some, None, Option, sym, refl, ap, arith}
use Rattle.std.proofs.lemmas.Bool.{true≢false}
use Rattle.strategies.specs.declared.leg.Leg.{Leg}
use Rattle.rules.specs.declared.execution.Execution.{Execution}
use Rattle.rules.specs.Steps.{Step, Trading, step_of, execution_of, after_step, Stepped, onward, steps}

abbrev pub Trail : List Leg → ℕ → Trading → List Execution → Trading → Type 0
Trail legs s t [] u = u ≡ t
Trail legs s t (x ∷ xs) u = (y : Step) × (step_of legs s t ≡ Some y) × (x ≡ execution_of s y) × Trail legs s (after_step legs y t) xs u

-- what is known of the steps of a strategy
pub record Stepping (legs : List Leg) (s room : ℕ) (t : Trading) (f : Stepped) : Type 0 where
  pub trail : Trail legs s t f.executions f.left
  pub within : length f.executions ≤ room
  pub ended : f.settled ≡ true → step_of legs s f.left ≡ None
  pub full : f.settled ≡ false → length f.executions ≡ room

pub stepping : (legs : List Leg) (s room : ℕ) (t : Trading) → Stepping legs s room t (steps legs s room t)
unfolding steps
stepping legs s zero t = record { trail = refl; within = omega arith; ended = λ e. absurd (true≢false (sym e)); full = λ _. refl }
stepping legs s (suc room) t = go (step_of legs s t) refl (λ y. stepping legs s room (after_step legs y t))
  where
    go : (o : Option Step) → step_of legs s t ≡ o → ((y : Step) → Stepping legs s room (after_step legs y t) (steps legs s room (after_step legs y t))) → Stepping legs s (suc room) t (onward s o t (λ y. steps legs s room (after_step legs y t)))
    go None e ih = record { trail = refl; within = omega arith; ended = λ _. e; full = λ f. absurd (true≢false f) }
    go (Some y) e ih =
        let more = ih y in
        record {
          trail = (y, e, refl, more.trail);
          within = omega (arith, more.within);
          ended = more.ended;
          full = λ f. ap suc (more.full f);
        }
