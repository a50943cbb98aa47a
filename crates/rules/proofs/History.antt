-- A list of calls and one call more: what was accepted, defined, executed and cancelled.
use Rattle.std.proofs.Common.{◌≡◌, ℕ, ◌+◌, ◌⊎◌, List, [], ◌∷◌, ◌++◌, ap, ◌∙◌, inl, inr, arith}
use Rattle.std.proofs.ByRecursion.{has_append_left, has_push, has_push_cases}
use Rattle.strategies.specs.declared.leg.Leg.{Leg}
use Rattle.strategies.specs.declared.row.StrategyRow.{StrategyRow}
use Rattle.strategies.specs.Rows.{row_legs}
use Rattle.rules.specs.declared.order.NewOrder.{NewOrder}
use Rattle.rules.specs.declared.answer.Placed.{Placed}
use Rattle.rules.specs.Events.{Event, define, place, defined, placed}
use Rattle.rules.specs.Laws.{Accepted, Defined, sum, traded_of, executed, cancelled_by, cancelled_of}

-- a sum over one entry more
pub sum_push : {X : Type 0} (f : X → ℕ) (xs : List X) (x : X) → sum f (xs ++ (x ∷ [])) ≡ sum f xs + f x
sum_push f [] x = omega arith
sum_push f (y ∷ xs) x = let more = sum_push f xs x in omega arith

-- a call that accepts this order under the number, and one that defines these legs
pub record Accepts (e : Event) (n : ℕ) (o : NewOrder) : Type 0 where
  pub placing : e.call ≡ place o
  pub told : Placed
  pub answering : e.answer ≡ placed told
  pub number : told.number ≡ n

pub record Defines (e : Event) (s : ℕ) (legs : List Leg) : Type 0 where
  pub row : StrategyRow
  pub defining : e.call ≡ define row
  pub answering : e.answer ≡ defined s
  pub counted : legs ≡ row_legs row

module _ (h : List Event) (e : Event) where
  abbrev longer : List Event
  longer = h ++ (e ∷ [])

  pub accepted_later : (n : ℕ) (o : NewOrder) → Accepted h n o → Accepted longer n o
  accepted_later n o a = record { by = a.by; among = has_append_left h (e ∷ []) a.by a.among; placing = a.placing; told = a.told; answering = a.answering; number = a.number }

  pub accepted_now : (n : ℕ) (o : NewOrder) → Accepts e n o → Accepted longer n o
  accepted_now n o a = record { by = e; among = has_push h e; placing = a.placing; told = a.told; answering = a.answering; number = a.number }

  pub accepted_cases : (n : ℕ) (o : NewOrder) → Accepted longer n o → Accepted h n o ⊎ Accepts e n o
  accepted_cases n o a =
      elim (has_push_cases h e a.by a.among) [
        | inl old ↦ inl (record { by = a.by; among = old; placing = a.placing; told = a.told; answering = a.answering; number = a.number })
        | inr new ↦ inr (record { placing = ap (λ (x : Event). x.call) new ∙ a.placing; told = a.told; answering = ap (λ (x : Event). x.answer) new ∙ a.answering; number = a.number })
      ]

  pub defined_later : (s : ℕ) (legs : List Leg) → Defined h s legs → Defined longer s legs
  defined_later s legs a = record { by = a.by; among = has_append_left h (e ∷ []) a.by a.among; row = a.row; defining = a.defining; answering = a.answering; counted = a.counted }

  pub defined_now : (s : ℕ) (legs : List Leg) → Defines e s legs → Defined longer s legs
  defined_now s legs a = record { by = e; among = has_push h e; row = a.row; defining = a.defining; answering = a.answering; counted = a.counted }

  pub defined_cases : (s : ℕ) (legs : List Leg) → Defined longer s legs → Defined h s legs ⊎ Defines e s legs
  defined_cases s legs a =
      elim (has_push_cases h e a.by a.among) [
        | inl old ↦ inl (record { by = a.by; among = old; row = a.row; defining = a.defining; answering = a.answering; counted = a.counted })
        | inr new ↦ inr (record { row = a.row; defining = ap (λ (x : Event). x.call) new ∙ a.defining; answering = ap (λ (x : Event). x.answer) new ∙ a.answering; counted = a.counted })
      ]

  pub executed_more : (n : ℕ) → executed longer n ≡ executed h n + sum (traded_of n) e.executions
  executed_more n = sum_push (λ e. sum (traded_of n) e.executions) h e

  pub cancelled_more : (n : ℕ) → cancelled_of longer n ≡ cancelled_of h n + cancelled_by n e.call e.answer
  cancelled_more n = sum_push (λ e. cancelled_by n e.call e.answer) h e
