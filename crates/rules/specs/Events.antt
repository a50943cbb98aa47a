-- One call as the caller sees it: what was asked, what came with it, what it answered and left.
use Rattle.std.specs.Prelude.{ℕ, Bool, true, false, List, [], ◌++◌, map, length, take, drop, Ok, Err, Result}
use Rattle.std.specs.Option.{unwrap_or}
use Rattle.refusals.specs.declared.refusal.Refusal.{Refusal}
use Rattle.contents.specs.declared.fault.ReaderFault.{ReaderFault}
use Rattle.contents.specs.declared.message.LegFields.{LegFields}
use Rattle.contents.specs.declared.message.Message.{Message}
use Rattle.contents.specs.declared.message.Message.TheVariants as message
use Rattle.contents.specs.declared.message.PlaceFields.{PlaceFields}
use Rattle.contents.specs.declared.message.Received.{Received}
use Rattle.contents.specs.declared.sides.LegSide.{LegSide}
use Rattle.contents.specs.declared.sides.LegSide.TheVariants.{Bought, Sold}
use Rattle.contents.specs.declared.time.TimeInForce.TheVariants.{Day}
use Rattle.contents.specs.Faults.{reader_refusal}
use Rattle.contents.specs.Times.{time_coded}
use Rattle.messages.specs.Reading.{read_of}
use Rattle.simple.specs.Lots.{Lots}
use Rattle.strategies.specs.declared.leg.Leg.{Leg}
use Rattle.strategies.specs.declared.row.StrategyRow.{StrategyRow}
use Rattle.rules.specs.declared.order.NewOrder.{NewOrder}
use Rattle.rules.specs.declared.execution.Execution.{Execution}
use Rattle.rules.specs.declared.answer.Placed.{Placed}
use Rattle.rules.specs.declared.answer.Evaluated.{Evaluated}
use Rattle.rules.specs.declared.answer.Intake.{Intake}
use Rattle.rules.specs.declared.answer.Intake.TheVariants as intake
use Rattle.rules.specs.declared.answer.IntakeFault.{IntakeFault}
use Rattle.rules.specs.declared.answer.IntakeFault.TheVariants.{Unread, Refused}

-- a call, or a message that cannot be read
pub data Call : Type 0 where
  define : StrategyRow → Call
  place : NewOrder → Call
  evaluate : (strategy : ℕ) → Call
  cancel : (number : ℕ) → Call
  unreadable : ReaderFault → Call

pub data Answer : Type 0 where
  defined : (strategy : ℕ) → Answer
  placed : Placed → Answer
  evaluated : Evaluated → Answer
  cancelled : (quantity : ℕ) → Answer
  refused : Refusal → Answer
  unread : ReaderFault → Answer

-- a call, the lots of the simple book and the room of the execution list that it came with, and what it answered, executed and left
pub record Event : Type 0 where
  pub call : Call
  pub before : Lots
  pub room : ℕ
  pub answer : Answer
  pub executions : List Execution
  pub after : Lots

-- the answers of the calls
abbrev pub answer_define : Result ℕ Refusal → Answer
answer_define (Ok n) = defined n
answer_define (Err why) = refused why

abbrev pub answer_place : Result Placed Refusal → Answer
answer_place (Ok p) = placed p
answer_place (Err why) = refused why

abbrev pub answer_evaluate : Result Evaluated Refusal → Answer
answer_evaluate (Ok v) = evaluated v
answer_evaluate (Err why) = refused why

abbrev pub answer_cancel : Result ℕ Refusal → Answer
answer_cancel (Ok q) = cancelled q
answer_cancel (Err why) = refused why

abbrev pub answer_intake : Result Intake IntakeFault → Answer
answer_intake (Ok (intake.Defined n)) = defined n
answer_intake (Ok (intake.Placed p)) = placed p
answer_intake (Ok (intake.Evaluated v)) = evaluated v
answer_intake (Ok (intake.Cancelled q)) = cancelled q
answer_intake (Err (Unread fault)) = unread fault
answer_intake (Err (Refused why)) = refused why

-- the whole refusal of a message that was not carried out
abbrev pub intake_refusal : IntakeFault → Refusal
intake_refusal (Unread fault) = reader_refusal fault
intake_refusal (Refused why) = why

-- how many records an answer tells of
abbrev pub records_told : Answer → ℕ
records_told (defined n) = 0
records_told (placed p) = p.records
records_told (evaluated v) = v.records
records_told (cancelled q) = 0
records_told (refused why) = 0
records_told (unread fault) = 0

-- the executions of a call: as many first places of its list as it tells of
abbrev pub event : Call → Lots → ℕ → Answer → List Execution → Lots → Event
event c before room answer list after = record { call = c; before = before; room = room; answer = answer; executions = take (records_told answer) list; after = after }

-- a call that sees no book
abbrev pub apart : Call → Lots → ℕ → Answer → Event
apart c b room answer = event c b room answer [] b

-- the records stand at the start of the list, and its other places keep what they held
abbrev pub written_over : List Execution → List Execution → List Execution
written_over xs list = xs ++ drop (length xs) list

-- what a message asks for
abbrev pub leg_said : LegFields → Leg
leg_said l = record { series = l.series; bought = is_bought l.side; ratio = l.ratio }
  where
    is_bought : LegSide → Bool
    is_bought Bought = true
    is_bought Sold = false

-- the reader lets no other time in force through
abbrev pub order_said : PlaceFields → NewOrder
order_said o = record { strategy = o.strategy; side = o.side; market = o.market; limit = o.limit; time_in_force = unwrap_or (time_coded o.time_in_force) Day; quantity = o.quantity }

abbrev pub call_said : Message → Call
call_said (message.Place o) = place (order_said o)
call_said (message.Cancel number) = cancel number
call_said (message.Evaluate strategy) = evaluate strategy
call_said (message.Define d) = define (record { count = d.count; legs = map leg_said d.legs })

abbrev pub call_in : Result Received ReaderFault → Call
call_in (Ok x) = call_said x.message
call_in (Err fault) = unreadable fault

abbrev pub call_of : List ℕ → Call
call_of bytes = call_in (read_of bytes)
