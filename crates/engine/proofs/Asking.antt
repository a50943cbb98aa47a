-- What a message asks of an engine.
use Rattle.std.proofs.Common.{◌≡◌, ℕ, zero, suc, ◌^◌, ◌<◌, All, List, [], length, Some, None, Ok, Err, sym, refl, ap, ◌∙◌, subst, arith}
use Rattle.refusals.specs.declared.refusal.Refusal.{Refusal}
use Rattle.contents.specs.declared.edition.Edition.{Edition}
use Rattle.contents.specs.declared.fault.ReaderFault.{ReaderFault}
use Rattle.contents.specs.declared.message.Received.{Received}
use Rattle.simple.specs.Lots.{Lots}
use Rattle.contents.specs.declared.message.LegFields.{LegFields}
use Rattle.contents.specs.declared.message.Message.{Message}
use Rattle.contents.specs.declared.message.Message.TheVariants as message
use Rattle.std.proofs.lemmas.List.Elements.{All-from_get_or}
use Rattle.messages.specs.Writing.{no_leg, leg}
use Rattle.messages.specs.Laws.{LegWritten, Written}
use Rattle.messages.proofs.FieldLaws.{field_below}
use Rattle.messages.specs.Reading.{read_of}
use Rattle.rules.specs.declared.answer.Intake.{Intake}
use Rattle.rules.specs.declared.answer.Intake.TheVariants as intake
use Rattle.rules.specs.States.{State}
use Rattle.rules.specs.Events.{Call, define, place, evaluate, cancel, unreadable, unread, call_said, call_in, call_of, answer_intake}
use Rattle.rules.specs.Calls.{refuse, did}
use Rattle.engine.specs.Messages.{NarrowLeg, Narrow, answer_asked}
use Rattle.engine.proofs.Dids.{memory_test, first_test, stopped, goes_on, define_refused, place_refused}

-- what was read fits
leg_narrow : (bytes : List ℕ) (at : ℕ) (l : LegFields) → LegWritten bytes at l → NarrowLeg l
leg_narrow bytes at l w = (subst (λ n. n < 2 ^ 32) (sym w.0) (field_below bytes at 10 32 (omega arith)), subst (λ n. n < 2 ^ 32) (sym w.2) (field_below bytes _ 4 32 (omega arith)))

legs_narrow : (bytes : List ℕ) (ls : List LegFields) → length ls ≡ 4 → LegWritten bytes 12 (leg ls 0) → LegWritten bytes 27 (leg ls 1) → LegWritten bytes 42 (leg ls 2) → LegWritten bytes 57 (leg ls 3) → All NarrowLeg ls
legs_narrow bytes ls long a b d e = All-from_get_or NarrowLeg ls no_leg (λ i h. each i (omega arith))
  where
    each : (i : ℕ) → i < 4 → NarrowLeg (leg ls i)
    each zero h = leg_narrow bytes 12 (leg ls 0) a
    each (suc zero) h = leg_narrow bytes 27 (leg ls 1) b
    each (suc (suc zero)) h = leg_narrow bytes 42 (leg ls 2) d
    each (suc (suc (suc zero))) h = leg_narrow bytes 57 (leg ls 3) e
    each (suc (suc (suc (suc i)))) h = absurd (omega arith)

pub narrow : (bytes : List ℕ) (edition : Edition) (m : Message) → Written bytes edition m → Narrow m
narrow bytes edition (message.Place o) w = (subst (λ n. n < 2 ^ 32) (sym w.1) (field_below bytes 8 8 32 (omega arith)), subst (λ n. n < 2 ^ 32) (sym w.6) (field_below bytes 52 16 32 (omega arith)))
narrow bytes edition (message.Cancel n) w = subst (λ n. n < 2 ^ 32) (sym w.1) (field_below bytes 68 32 32 (omega arith))
narrow bytes edition (message.Evaluate s) w = subst (λ n. n < 2 ^ 32) (sym w.1) (field_below bytes 8 8 32 (omega arith))
narrow bytes edition (message.Define d) w = (
  subst (λ n. n < 2 ^ 32) (sym w.1) (field_below bytes 8 4 32 (omega arith)),
  (w.2, legs_narrow bytes d.legs w.2 w.3 w.4 w.5 w.6),
)

-- on other memory every call is refused
pub stopped_all : (s : State) (c : Call) (b : Lots) (k : ℕ) (why : Refusal) → Some why ≡ memory_test s → did s c b k ≡ refuse s b why
unfolding did
stopped_all s (define row) b k why e = define_refused s row b k why (first_test s.ready why _ e)
stopped_all s (place o) b k why e = place_refused s o b k why (first_test s.ready why _ e)
stopped_all s (evaluate n) b k why e = stopped s b _ (memory_test s) why e
stopped_all s (cancel n) b k why e = stopped s b _ (memory_test s) why e
stopped_all s (unreadable fault) b k why e = stopped s b _ (memory_test s) why e

-- a message that cannot be read changes nothing
pub unread_so : (s : State) (bytes : List ℕ) (b : Lots) (k : ℕ) (fault : ReaderFault) → None ≡ memory_test s → Err fault ≡ read_of bytes → did s (call_of bytes) b k ≡ record { answer = unread fault; executions = []; after = b; next = s }
unfolding did
unread_so s bytes b k fault up e = ap (λ r. did s (call_in r) b k) (sym e) ∙ goes_on s b _ (memory_test s) up

-- one that can be read asks for its call
pub asked_so : (bytes : List ℕ) (x : Received) → Ok x ≡ read_of bytes → call_of bytes ≡ call_said x.message
asked_so bytes x e = ap call_in (sym e)

pub answered_so : (done : Intake) → answer_asked (Ok done) ≡ answer_intake (Ok done)
answered_so (intake.Defined n) = refl
answered_so (intake.Placed p) = refl
answered_so (intake.Evaluated v) = refl
answered_so (intake.Cancelled q) = refl
