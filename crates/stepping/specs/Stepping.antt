-- What the code's steps mean, and what a run of them leaves.
use Rattle.std.specs.Prelude.{◌≡◌, ℕ, Bool, List, length}
use Rattle.simple.specs.Lots.{Lots}
use Rattle.rules.specs.declared.order.Order.{Order}
use Rattle.rules.specs.declared.execution.Execution.{Execution}
use Rattle.rules.specs.Steps.{Step as RuleStep, pair, legged, Stepped}
use Rattle.rules.specs.Events.{written_over}
use Rattle.stepping.specs.declared.steps.Step.{Step}
use Rattle.stepping.specs.declared.steps.Step.TheVariants.{Pair, Legged}

-- the step of the rules
abbrev pub told : Step → RuleStep
told (Pair b c t) = pair b c t
told (Legged o q t) = legged o q t

-- a run that comes to f: the list of records, the orders and the lots that it leaves, how many records it wrote,
-- and whether it ended because no step was possible
pub record Ran (f : Stepped) (before after : List Execution) (os : List Order) (b : Lots) (n : ℕ) (ended : Bool) : Type 0 where
  pub list : after ≡ written_over f.executions before
  pub orders : os ≡ f.left.orders
  pub lots : b ≡ f.left.lots
  pub records : n ≡ length f.executions
  pub settled : ended ≡ f.settled
