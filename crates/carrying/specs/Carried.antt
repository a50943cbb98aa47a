-- What carrying out a call leaves, beside what its steps come to.
use Rattle.std.specs.Prelude.{◌≡◌, cond, List, ℕ, ◌-◌, length}
use Rattle.strategies.specs.declared.leg.Leg.{Leg}
use Rattle.rules.specs.declared.order.NewOrder.{NewOrder}
use Rattle.rules.specs.declared.execution.Execution.{Execution}
use Rattle.rules.specs.declared.answer.Placed.{Placed}
use Rattle.rules.specs.declared.answer.Evaluated.{Evaluated}
use Rattle.rules.specs.Orders.{left_of}
use Rattle.rules.specs.Steps.{Trading, Stepped}
use Rattle.rules.specs.Events.{written_over}
use Rattle.rules.specs.Calls.{is_immediate, kept, outcome_of}

-- an evaluation of the strategy s, whose steps come to f
pub record Ended (legs : List Leg) (s : ℕ) (f : Stepped) (before after : List Execution) (left : Trading) (v : Evaluated) : Type 0 where
  pub list : after ≡ written_over f.executions before
  pub orders : left.orders ≡ f.left.orders
  pub lots : left.lots ≡ f.left.lots
  pub records : v.records ≡ length f.executions
  pub outcome : v.outcome ≡ outcome_of legs s f f.left.orders

-- the order o that was accepted under the number n, where the steps of the strategy s come to f
pub record Carried (o : NewOrder) (n : ℕ) (legs : List Leg) (s : ℕ) (f : Stepped) (before after : List Execution) (left : Trading) (p : Placed) : Type 0 where
  pub list : after ≡ written_over f.executions before
  pub orders : left.orders ≡ kept o n f.left.orders
  pub lots : left.lots ≡ f.left.lots
  pub number : p.number ≡ n
  pub records : p.records ≡ length f.executions
  pub executed : p.executed ≡ o.quantity - left_of n f.left.orders
  pub cancelled : p.cancelled ≡ cond (is_immediate o.time_in_force) (left_of n f.left.orders) 0
  pub outcome : p.outcome ≡ outcome_of legs s f (kept o n f.left.orders)
