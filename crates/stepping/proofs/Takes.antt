-- One leg more of a take.
use Rattle.std.proofs.Common.{◌≡◌, ℕ, ◌≤◌, Bool, List, length, take, fold, ap, ◌∙◌}
use Rattle.std.proofs.lemmas.List.{take_all}
use Rattle.simple.specs.Lots.{Lots}
use Rattle.strategies.specs.declared.leg.Leg.{Leg}
use Rattle.rules.specs.Steps.{leg_taken, legs_taken}

module _ (b : Lots) (legs : List Leg) (i : ℕ) (buy : Bool) (q : ℕ) (b₁ : Lots) (so : b₁ ≡ fold (leg_taken buy q) b (take i legs)) where
  pub taken_all : length legs ≤ i → b₁ ≡ legs_taken legs buy q b
  unfolding legs_taken
  taken_all h = so ∙ ap (fold (leg_taken buy q) b) (take_all i legs h)
