-- What each call answers and leaves.
use Rattle.std.specs.Prelude.{ℕ, ◌+◌, ◌-◌, Bool, true, false, cond, not, ◌&&◌, ◌||◌, List, [], ◌∷◌, ◌++◌, length, ℤ, pos, neg_ℤ, is_some, Some, None, Option, int_le, nat_le}
use Rattle.refusals.specs.declared.reason.Reason.{Reason}
use Rattle.refusals.specs.declared.reason.Reason.TheVariants.{Memory, SameLegs, TableFull, Strategy, Quantity, Limit, BookFull, NumbersSpent, NotResting}
use Rattle.refusals.specs.declared.station.Station.TheVariants.{Opening, Define, Place, Evaluate, Cancel}
use Rattle.refusals.specs.declared.refusal.Refusal.{Refusal}
use Rattle.refusals.specs.Refusals.{refused_at}
use Rattle.contents.specs.declared.fault.ReaderFault.{ReaderFault}
use Rattle.contents.specs.declared.sides.OrderSide.{OrderSide}
use Rattle.contents.specs.declared.sides.OrderSide.TheVariants.{Buy, Sell}
use Rattle.contents.specs.declared.time.TimeInForce.{TimeInForce}
use Rattle.contents.specs.declared.time.TimeInForce.TheVariants.{Day, ImmediateOrCancel}
use Rattle.simple.specs.Lots.{Lots}
use Rattle.strategies.specs.declared.leg.Leg.{Leg}
use Rattle.strategies.specs.declared.row.StrategyRow.{StrategyRow}
use Rattle.strategies.specs.Rows.{row_legs, row_fault}
use Rattle.ranked.specs.Ranking.{ranked_insert}
use Rattle.rules.specs.declared.order.NewOrder.{NewOrder}
use Rattle.rules.specs.declared.order.Order.{Order}
use Rattle.rules.specs.declared.execution.Execution.{Execution}
use Rattle.rules.specs.declared.answer.Outcome.{Outcome}
use Rattle.rules.specs.declared.answer.Outcome.TheVariants.{AtRest, More}
use Rattle.rules.specs.Limits.{order_places, strategy_places, most_quantity, furthest_limit, most_accepted}
use Rattle.rules.specs.Orders.{order_ahead, dropped, order_with, left_of}
use Rattle.rules.specs.Steps.{trading, Stepped, steps, rests}
use Rattle.rules.specs.States.{State, strategy_at, stands_among}
use Rattle.rules.specs.Events.{Call, define, place, evaluate, cancel, unreadable, Answer, defined, placed, evaluated, cancelled, refused, unread}

-- what a call answers, its executions, the lots afterwards and the engine afterwards
pub record Did : Type 0 where
  pub answer : Answer
  pub executions : List Execution
  pub after : Lots
  pub next : State

-- refused, nothing changes
abbrev pub refuse : State → Lots → Refusal → Did
refuse s b why = record { answer = refused why; executions = []; after = b; next = s }

abbrev pub unless : Option Refusal → State → Lots → Did → Did
unless (Some why) s b d = refuse s b why
unless None s b d = d

-- one test, then the others
abbrev pub test : Bool → Refusal → Option Refusal → Option Refusal
test broken why next = cond broken (Some why) next

-- a reason of the define station, if there is one
abbrev pub fault_at : Option Reason → Option Refusal → Option Refusal
fault_at (Some why) next = Some (refused_at Define why)
fault_at None next = next

-- define: the memory, then the rules of a strategy, the same legs, the table
abbrev pub define_refusal : State → StrategyRow → Option Refusal
define_refusal s row =
    test (not s.ready) (refused_at Opening Memory)
    (fault_at (row_fault row)
    (test (stands_among (row_legs row) s.strategies) (refused_at Define SameLegs)
    (test (nat_le strategy_places (length s.strategies)) (refused_at Define TableFull)
    None)))

-- a strategy is numbered by how many stand before it
abbrev pub did_define : State → Lots → StrategyRow → Did
did_define s b row =
    unless (define_refusal s row) s b
    (record {
      answer = defined (length s.strategies);
      executions = [];
      after = b;
      next = record { ready = s.ready; strategies = s.strategies ++ (row ∷ []); orders = s.orders; accepted = s.accepted };
    })

-- cancel: the memory, then whether the order rests
abbrev pub cancel_found : State → Lots → ℕ → Option Order → Did
cancel_found s b n None = refuse s b (refused_at Cancel NotResting)
cancel_found s b n (Some o) = record {
  answer = cancelled o.quantity;
  executions = [];
  after = b;
  next = record { ready = s.ready; strategies = s.strategies; orders = dropped n s.orders; accepted = s.accepted };
}

abbrev pub did_cancel : State → Lots → ℕ → Did
did_cancel s b n = unless (test (not s.ready) (refused_at Opening Memory) None) s b (cancel_found s b n (order_with n s.orders))

-- at rest when no step is possible: none was left, or none is left now
abbrev pub outcome : Bool → Outcome
outcome rest = cond rest AtRest More

abbrev pub outcome_of : List Leg → ℕ → Stepped → List Order → Outcome
outcome_of legs s f os = outcome (f.settled || rests legs s (trading os f.left.lots))

-- evaluate: the memory, then the strategy
abbrev pub evaluated_with : State → ℕ → List Leg → Stepped → Did
evaluated_with s n legs f = record {
  answer = evaluated (record { records = length f.executions; outcome = outcome_of legs n f f.left.orders });
  executions = f.executions;
  after = f.left.lots;
  next = record { ready = s.ready; strategies = s.strategies; orders = f.left.orders; accepted = s.accepted };
}

abbrev pub evaluate_on : State → Lots → ℕ → ℕ → Option (List Leg) → Did
evaluate_on s b room n None = refuse s b (refused_at Evaluate Strategy)
evaluate_on s b room n (Some legs) = evaluated_with s n legs (steps legs n room (trading s.orders b))

abbrev pub did_evaluate : State → Lots → ℕ → ℕ → Did
did_evaluate s b room n = unless (test (not s.ready) (refused_at Opening Memory) None) s b (evaluate_on s b room n (strategy_at s.strategies n))

-- an order that is accepted: it rests under the next number
abbrev pub is_buy : OrderSide → Bool
is_buy Buy = true
is_buy Sell = false

abbrev pub is_immediate : TimeInForce → Bool
is_immediate Day = false
is_immediate ImmediateOrCancel = true

-- a market order rests without a limit
abbrev pub placed_limit : NewOrder → Option ℤ
placed_limit o = cond o.market None (Some o.limit)

abbrev pub entered : ℕ → NewOrder → Order
entered n o = record { strategy = o.strategy; buy = is_buy o.side; limit = placed_limit o; number = n; quantity = o.quantity }

-- a limit lies within the furthest, and a market order has limit 0
abbrev pub limit_lawful : Bool → ℤ → Bool
limit_lawful market limit = cond market (int_le (pos 0) limit && int_le limit (pos 0)) (int_le (neg_ℤ (pos furthest_limit)) limit && int_le limit (pos furthest_limit))

-- place: the memory, the strategy, the quantity, the limit, room on the book, the numbers
abbrev pub place_refusal : State → NewOrder → Option Refusal
place_refusal s o =
    test (not s.ready) (refused_at Opening Memory)
    (test (not (is_some (strategy_at s.strategies o.strategy))) (refused_at Place Strategy)
    (test (not (nat_le 1 o.quantity && nat_le o.quantity most_quantity)) (refused_at Place Quantity)
    (test (not (limit_lawful o.market o.limit)) (refused_at Place Limit)
    (test (nat_le order_places (length s.orders)) (refused_at Place BookFull)
    (test (nat_le most_accepted s.accepted) (refused_at Place NumbersSpent)
    None)))))

-- what steps leave of the order: an immediate-or-cancel remainder is cancelled
abbrev pub kept : NewOrder → ℕ → List Order → List Order
kept o n os = cond (is_immediate o.time_in_force) (dropped n os) os

abbrev pub placed_with : State → NewOrder → List Leg → Stepped → Did
placed_with s o legs f =
    let n = s.accepted + 1 in
    let left = left_of n f.left.orders in
    let rest = kept o n f.left.orders in
    record {
      answer = placed (record {
        number = n;
        records = length f.executions;
        executed = o.quantity - left;
        cancelled = cond (is_immediate o.time_in_force) left 0;
        outcome = outcome_of legs o.strategy f rest;
      });
      executions = f.executions;
      after = f.left.lots;
      next = record { ready = s.ready; strategies = s.strategies; orders = rest; accepted = n };
    }

abbrev pub place_on : State → Lots → ℕ → NewOrder → Option (List Leg) → Did
place_on s b room o None = refuse s b (refused_at Place Strategy)
place_on s b room o (Some legs) = placed_with s o legs (steps legs o.strategy room (trading (ranked_insert order_ahead (entered (s.accepted + 1) o) s.orders) b))

abbrev pub did_place : State → Lots → ℕ → NewOrder → Did
did_place s b room o = unless (place_refusal s o) s b (place_on s b room o (strategy_at s.strategies o.strategy))

-- a message that cannot be read changes nothing
abbrev pub did_nothing : State → Lots → ReaderFault → Did
did_nothing s b fault = unless (test (not s.ready) (refused_at Opening Memory) None) s b (record { answer = unread fault; executions = []; after = b; next = s })

-- what a call does, in a state, over the lots and with the room that it came with
unfoldable pub did : State → Call → Lots → ℕ → Did
did s (define row) b room = did_define s b row
did s (place o) b room = did_place s b room o
did s (evaluate n) b room = did_evaluate s b room n
did s (cancel n) b room = did_cancel s b n
did s (unreadable fault) b room = did_nothing s b fault
