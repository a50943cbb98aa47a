-- What a call can do, one case each.
use Rattle.std.proofs.Common.{◌≡◌, ℕ, ◌+◌, Bool, true, false, not, List, [], ◌∷◌, ◌++◌, length, Some, None, Option, sym, refl, ap, subst, arith}
use Rattle.refusals.specs.declared.reason.Reason.{Reason}
use Rattle.refusals.specs.declared.reason.Reason.TheVariants.{Memory}
use Rattle.refusals.specs.declared.station.Station.TheVariants.{Opening}
use Rattle.refusals.specs.Refusals.{refused_at}
use Rattle.refusals.specs.declared.refusal.Refusal.{Refusal}
use Rattle.contents.specs.declared.fault.ReaderFault.{ReaderFault}
use Rattle.strategies.specs.declared.leg.Leg.{Leg}
use Rattle.strategies.specs.declared.row.StrategyRow.{StrategyRow}
use Rattle.strategies.specs.Rows.{row_fault}
use Rattle.ranked.specs.Ranking.{ranked_insert}
use Rattle.rules.specs.declared.order.NewOrder.{NewOrder}
use Rattle.rules.specs.declared.order.Order.{Order}
use Rattle.rules.specs.Orders.{order_ahead, order_with}
use Rattle.rules.specs.Steps.{trading, steps}
use Rattle.rules.specs.States.{State, strategy_at}
use Rattle.rules.specs.Events.{Event, Call, define, place, evaluate, cancel, unreadable, Answer, defined, placed, evaluated, cancelled, refused, unread}
use Rattle.rules.specs.Calls.{Did, refuse, unless, test, define_refusal, fault_at, did_define, cancel_found, did_cancel, evaluated_with, evaluate_on, did_evaluate, entered, place_refusal, placed_with, place_on, did_place, did_nothing, did}
use Rattle.rules.specs.Runs.{Happens}

-- an answer that tells of no change
abbrev pub Quiet : Answer → Type 0
Quiet (defined n) = ⊥
Quiet (placed p) = ⊥
Quiet (evaluated v) = ⊥
Quiet (cancelled q) = ⊥
Quiet (refused why) = Unit {0}
Quiet (unread fault) = Unit {0}

-- a call does what one definition says
pub record Does (e : Event) (t : State) (d : Did) : Type 0 where
  pub answer : e.answer ≡ d.answer
  pub executions : e.executions ≡ d.executions
  pub after : e.after ≡ d.after
  pub next : t ≡ d.next

pub data Effect (s : State) (e : Event) (t : State) : Type 0 where
  quiet : Quiet e.answer → e.executions ≡ [] → e.after ≡ e.before → t ≡ s → Effect s e t
  defining : (row : StrategyRow) → s.ready ≡ true → e.call ≡ define row → row_fault row ≡ None → Does e t (record { answer = defined (length s.strategies); executions = []; after = e.before; next = record { ready = s.ready; strategies = s.strategies ++ (row ∷ []); orders = s.orders; accepted = s.accepted } }) → Effect s e t
  cancelling : (n : ℕ) (o : Order) → s.ready ≡ true → e.call ≡ cancel n → order_with n s.orders ≡ Some o → Does e t (cancel_found s e.before n (Some o)) → Effect s e t
  evaluating : (n : ℕ) (legs : List Leg) → s.ready ≡ true → e.call ≡ evaluate n → strategy_at s.strategies n ≡ Some legs → Does e t (evaluated_with s n legs (steps legs n e.room (trading s.orders e.before))) → Effect s e t
  placing : (o : NewOrder) (legs : List Leg) → s.ready ≡ true → e.call ≡ place o → place_refusal s o ≡ None → strategy_at s.strategies o.strategy ≡ Some legs → Does e t (placed_with s o legs (steps legs o.strategy e.room (trading (ranked_insert order_ahead (entered (s.accepted + 1) o) s.orders) e.before))) → Effect s e t

-- a rule that is not broken
unbroken : (o : Option Reason) (next : Option Refusal) → fault_at o next ≡ None → o ≡ None
unbroken None next e = refl
unbroken (Some why) next e = let z : ◌≡◌ {A = ℕ} 0 1 = cc in absurd (omega arith)

-- a test that did not refuse
passed : (broken : Bool) (why : Refusal) (next : Option Refusal) → test broken why next ≡ None → (broken ≡ false) × (next ≡ None)
passed true why next e = let z : ◌≡◌ {A = ℕ} 0 1 = cc in absurd (omega arith)
passed false why next e = (refl, e)

not-false : (b : Bool) → not b ≡ false → b ≡ true
not-false true e = refl
not-false false e = sym e

happened : (s t : State) (e : Event) (d : Did) → d ≡ record { answer = e.answer; executions = e.executions; after = e.after; next = t } → Does e t d
happened s t e d h = record {
  answer = sym (ap (λ (x : Did). x.answer) h);
  executions = sym (ap (λ (x : Did). x.executions) h);
  after = sym (ap (λ (x : Did). x.after) h);
  next = sym (ap (λ (x : Did). x.next) h);
}

-- a refusal is quiet
module _ (s t : State) (e : Event) where
  refusing : (why : Refusal) → Does e t (refuse s e.before why) → Effect s e t
  refusing why d = quiet (subst Quiet (sym d.answer) tt) d.executions d.after d.next

  unless_cases : (o : Option Refusal) (d : Did) → Does e t (unless o s e.before d) → (o ≡ None → Does e t d → Effect s e t) → Effect s e t
  unless_cases (Some why) d does go = refusing why does
  unless_cases None d does go = go refl does

  is_ready : (next : Option Refusal) (why : Refusal) → test (not s.ready) why next ≡ None → s.ready ≡ true
  is_ready next why h = not-false s.ready (passed (not s.ready) why next h).0

  define_effect : (row : StrategyRow) → e.call ≡ define row → Does e t (did_define s e.before row) → Effect s e t
  define_effect row c does = unless_cases (define_refusal s row) _ does (λ none d. defining row (is_ready _ _ none) c (unbroken (row_fault row) _ (passed (not s.ready) _ _ none).1) d)

  cancel_effect : (n : ℕ) → e.call ≡ cancel n → Does e t (did_cancel s e.before n) → Effect s e t
  cancel_effect n c does = unless_cases _ _ does (λ none d. go (order_with n s.orders) refl (is_ready _ _ none) d)
    where
      go : (o : Option Order) → order_with n s.orders ≡ o → s.ready ≡ true → Does e t (cancel_found s e.before n o) → Effect s e t
      go None found ready d = refusing _ d
      go (Some o) found ready d = cancelling n o ready c found d

  evaluate_effect : (n : ℕ) → e.call ≡ evaluate n → Does e t (did_evaluate s e.before e.room n) → Effect s e t
  evaluate_effect n c does = unless_cases _ _ does (λ none d. go (strategy_at s.strategies n) refl (is_ready _ _ none) d)
    where
      go : (o : Option (List Leg)) → strategy_at s.strategies n ≡ o → s.ready ≡ true → Does e t (evaluate_on s e.before e.room n o) → Effect s e t
      go None found ready d = refusing _ d
      go (Some legs) found ready d = evaluating n legs ready c found d

  place_effect : (o : NewOrder) → e.call ≡ place o → Does e t (did_place s e.before e.room o) → Effect s e t
  place_effect o c does = unless_cases (place_refusal s o) _ does (λ none d. go (strategy_at s.strategies o.strategy) refl none (is_ready _ _ none) d)
    where
      go : (l : Option (List Leg)) → strategy_at s.strategies o.strategy ≡ l → place_refusal s o ≡ None → s.ready ≡ true → Does e t (place_on s e.before e.room o l) → Effect s e t
      go None found none ready d = refusing _ d
      go (Some legs) found none ready d = placing o legs ready c none found d

  nothing_effect : (fault : ReaderFault) → Does e t (did_nothing s e.before fault) → Effect s e t
  nothing_effect fault does =
      unless_cases (test (not s.ready) (refused_at Opening Memory) None) (record { answer = unread fault; executions = []; after = e.before; next = s }) does
      (λ _ d. quiet (subst Quiet {x = unread fault} (sym d.answer) tt) d.executions d.after d.next)

pub effect : (s t : State) (e : Event) → Happens s e t → Effect s e t
unfolding did
effect s t e h = go e.call refl (happened s t e (did s e.call e.before e.room) h)
  where
    go : (c : Call) → e.call ≡ c → Does e t (did s c e.before e.room) → Effect s e t
    go (define row) c d = define_effect s t e row c d
    go (place o) c d = place_effect s t e o c d
    go (evaluate n) c d = evaluate_effect s t e n c d
    go (cancel n) c d = cancel_effect s t e n c d
    go (unreadable fault) c d = nothing_effect s t e fault d
