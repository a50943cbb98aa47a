-- What each call does, from what it left.
use Rattle.std.proofs.Common.{◌≡◌, ℕ, ◌+◌, ◌<◌, Bool, true, false, cond, not, ◌&&◌, eqb, ltb, leb, List, [], ◌∷◌, ◌++◌, length, take, drop, is_some, Some, None, Err, Option, Result, sym, refl, ap, ◌∙◌, subst, arith}
use Rattle.std.specs.Result.{IsErrAnd}
use Rattle.std.proofs.lemmas.Result.{err_from_is_err_and}
use Rattle.std.proofs.lemmas.List.{take_at}
use Rattle.std.proofs.lemmas.Bool.{leb-false, eqb-true, lt-ltb}
use Rattle.refusals.specs.declared.reason.Reason.TheVariants.{Memory, Strategy, Quantity, Limit, BookFull, NumbersSpent, NotResting}
use Rattle.refusals.specs.declared.station.Station.TheVariants.{Opening, Place, Evaluate, Cancel}
use Rattle.refusals.specs.declared.refusal.Refusal.{Refusal}
use Rattle.refusals.specs.Refusals.{refused_at}
use Rattle.simple.specs.Lots.{Lots}
use Rattle.strategies.specs.declared.leg.Leg.{Leg}
use Rattle.strategies.specs.declared.row.StrategyRow.{StrategyRow}
use Rattle.ranked.specs.Ranking.{ranked_insert}
use Rattle.rules.specs.declared.order.NewOrder.{NewOrder}
use Rattle.rules.specs.declared.order.Order.{Order}
use Rattle.rules.specs.declared.execution.Execution.{Execution}
use Rattle.rules.specs.declared.answer.Placed.{Placed}
use Rattle.rules.specs.declared.answer.Evaluated.{Evaluated}
use Rattle.rules.specs.Limits.{order_places, most_quantity, most_accepted}
use Rattle.rules.specs.Orders.{order_ahead, dropped, order_with}
use Rattle.rules.specs.Steps.{trading, steps}
use Rattle.rules.specs.States.{State, strategy_at}
use Rattle.rules.specs.Events.{define, place, evaluate, cancel, Answer, defined, placed, evaluated, cancelled, refused, records_told, written_over}
use Rattle.rules.specs.Calls.{Did, refuse, unless, test, entered, limit_lawful, define_refusal, place_refusal, did, cancel_found, evaluate_on, place_on, placed_with}
use Rattle.carrying.specs.Carried.{Carried, Ended}

-- a test that was passed
passed : (t : Bool) (why : Refusal) (rest : Option Refusal) → None ≡ test t why rest → (t ≡ false) × (None ≡ rest)
passed true why rest e = let z : ◌≡◌ {A = ℕ} 0 1 = cc in absurd (omega arith)
passed false why rest e = (refl, e)

is_not : (t : Bool) → not t ≡ false → t ≡ true
is_not true e = refl
is_not false e = sym e

-- the memory test, by its answer
abbrev pub memory_test : State → Option Refusal
memory_test s = test (not s.ready) (refused_at Opening Memory) None

-- a refusal ends a call, and without one it goes on
module _ (s : State) (b : Lots) (d : Did) (r : Option Refusal) where
  pub stopped : (why : Refusal) → Some why ≡ r → unless r s b d ≡ refuse s b why
  stopped why e = ap (λ r. unless r s b d) (sym e)

  pub goes_on : None ≡ r → unless r s b d ≡ d
  goes_on e = ap (λ r. unless r s b d) (sym e)

-- a look-up that fails, or not: the memory, then what was found
module _ {X : Type 0} (s : State) (found : Option X) (no : Refusal) where
  abbrev pub look_up_test : Option Refusal
  look_up_test = test (not s.ready) (refused_at Opening Memory) (test (not (is_some found)) no None)

  pub was_ready : None ≡ look_up_test → None ≡ memory_test s
  was_ready e = ap (λ t. test t (refused_at Opening Memory) None) (sym (passed (not s.ready) (refused_at Opening Memory) (test (not (is_some found)) no None) e).0)

-- a call goes on with what its look-up found; where there is none it is refused
module _ {X : Type 0} (s : State) (b : Lots) (on : Option X → Did) (no : Refusal) (none : on None ≡ refuse s b no) where
  pub look_up_refused : (ready : Bool) (found : Option X) (why : Refusal) → Some why ≡ test (not ready) (refused_at Opening Memory) (test (not (is_some found)) no None) → unless (test (not ready) (refused_at Opening Memory) None) s b (on found) ≡ refuse s b why
  look_up_refused false found why e = let same : why ≡ refused_at Opening Memory = cc in ap (refuse s b) (sym same)
  look_up_refused true None why e = let same : why ≡ no = cc in none ∙ ap (refuse s b) (sym same)
  look_up_refused true (Some x) why e = let z : ◌≡◌ {A = ℕ} 0 1 = cc in absurd (omega arith)

-- it is the first of the tests
pub first_test : (ready : Bool) (why : Refusal) (rest : Option Refusal) → Some why ≡ test (not ready) (refused_at Opening Memory) None → Some why ≡ test (not ready) (refused_at Opening Memory) rest
first_test true why rest e = let z : ◌≡◌ {A = ℕ} 0 1 = cc in absurd (omega arith)
first_test false why rest e = e

-- what a call answers that is refused
pub refused_so : (s : State) (d : Did) (b : Lots) (list : List Execution) (why : Refusal) (a : Answer) → d ≡ refuse s b why → a ≡ refused why → d ≡ record { answer = a; executions = take (records_told a) list; after = b; next = s }
refused_so s d b list why a e is = e ∙ ap (λ a. record { answer = a; executions = take (records_told a) list; after = b; next = s }) (sym is)

-- a `?` hands its refusal on
pub err_so : {T : Type 0} (r : Result T Refusal) (why : Refusal) → IsErrAnd r (λ y. y ≡ why) → r ≡ Err why
err_so r why h = let p = err_from_is_err_and r h in p.1 ∙ ap Err p.2

-- a list of records: those written, then what stood there
module _ (xs before after : List Execution) (n : ℕ) (list : after ≡ written_over xs before) (many : n ≡ length xs) where
  pub written_first : take n after ≡ xs
  written_first = ap (take n) list ∙ take_at xs (drop (length xs) before) n (sym many)

-- ## define

module _ (s : State) (row : StrategyRow) where
  pub define_refused : (b : Lots) (k : ℕ) (why : Refusal) → Some why ≡ define_refusal s row → did s (define row) b k ≡ refuse s b why
  unfolding did
  define_refused b k why e =
      let d : Did = record { answer = defined (length s.strategies); executions = []; after = b; next = record { ready = s.ready; strategies = s.strategies ++ (row ∷ []); orders = s.orders; accepted = s.accepted } } in
      ap (λ r. unless r s b d) (sym e)

  pub defined_so : (b : Lots) (k n : ℕ) (rows : List StrategyRow) → None ≡ define_refusal s row → n ≡ length s.strategies → rows ≡ s.strategies ++ (row ∷ []) → did s (define row) b k ≡ record { answer = defined n; executions = []; after = b; next = record { ready = s.ready; strategies = rows; orders = s.orders; accepted = s.accepted } }
  unfolding did
  defined_so b k n rows e is more =
      let d : Did = record { answer = defined (length s.strategies); executions = []; after = b; next = record { ready = s.ready; strategies = s.strategies ++ (row ∷ []); orders = s.orders; accepted = s.accepted } } in
      ap (λ r. unless r s b d) (sym e) ∙ (λ i. record { answer = defined (sym is i); executions = []; after = b; next = record { ready = s.ready; strategies = sym more i; orders = s.orders; accepted = s.accepted } })

-- ## cancel

module _ (s : State) (n : ℕ) (b : Lots) (k : ℕ) where
  pub cancel_refused : (why : Refusal) → Some why ≡ look_up_test s (order_with n s.orders) (refused_at Cancel NotResting) → did s (cancel n) b k ≡ refuse s b why
  unfolding did
  cancel_refused why e = look_up_refused s b (cancel_found s b n) (refused_at Cancel NotResting) refl s.ready (order_with n s.orders) why e

  pub cancelled_so : (o : Order) (ready : Bool) (os : List Order) → None ≡ memory_test s → Some o ≡ order_with n s.orders → ready ≡ s.ready → os ≡ dropped n s.orders → did s (cancel n) b k ≡ record { answer = cancelled o.quantity; executions = []; after = b; next = record { ready = ready; strategies = s.strategies; orders = os; accepted = s.accepted } }
  unfolding did
  cancelled_so o ready os e some same less =
      goes_on s b (cancel_found s b n (order_with n s.orders)) (memory_test s) e ∙ ap (cancel_found s b n) (sym some)
      ∙ (λ i. record { answer = cancelled o.quantity; executions = []; after = b; next = record { ready = sym same i; strategies = s.strategies; orders = sym less i; accepted = s.accepted } })

-- ## evaluate

module _ (s : State) (n : ℕ) (b : Lots) (room : ℕ) where
  pub evaluate_refused : (why : Refusal) → Some why ≡ look_up_test s (strategy_at s.strategies n) (refused_at Evaluate Strategy) → did s (evaluate n) b room ≡ refuse s b why
  unfolding did
  evaluate_refused why e = look_up_refused s b (evaluate_on s b room n) (refused_at Evaluate Strategy) refl s.ready (strategy_at s.strategies n) why e

  pub evaluated_so : (legs : List Leg) (ready : Bool) (before after : List Execution) (os : List Order) (lots : Lots) (v : Evaluated) (m : ℕ) → None ≡ memory_test s → Some legs ≡ strategy_at s.strategies n → m ≡ n → ready ≡ s.ready → Ended legs m (steps legs m room (trading s.orders b)) before after (trading os lots) v
      → did s (evaluate n) b room ≡ record { answer = evaluated v; executions = take v.records after; after = lots; next = record { ready = ready; strategies = s.strategies; orders = os; accepted = s.accepted } }
  unfolding did
  evaluated_so legs ready before after os lots v m e some numbered same ended =
      let f = steps legs n room (trading s.orders b) in
      let end : Ended legs n f before after (trading os lots) v = subst (λ m. Ended legs m (steps legs m room (trading s.orders b)) before after (trading os lots) v) numbered ended in
      let xs = written_first f.executions before after v.records end.list end.records in
      goes_on s b (evaluate_on s b room n (strategy_at s.strategies n)) (memory_test s) e ∙ ap (evaluate_on s b room n) (sym some)
      ∙ (λ i. record { answer = evaluated (record { records = sym end.records i; outcome = sym end.outcome i }); executions = sym xs i; after = sym end.lots i; next = record { ready = sym same i; strategies = s.strategies; orders = sym end.orders i; accepted = s.accepted } })

-- ## place

-- what an order that is accepted passed
pub record Accepted (s : State) (o : NewOrder) : Type 0 where
  pub is_ready : s.ready ≡ true
  pub room : length s.orders < 512
  pub few : s.accepted < 1000000

pub accepted_so : (s : State) (o : NewOrder) → None ≡ place_refusal s o → Accepted s o
accepted_so s o e =
    let numbers = test (leb most_accepted s.accepted) (refused_at Place NumbersSpent) None in
    let places = test (leb order_places (length s.orders)) (refused_at Place BookFull) numbers in
    let limits = test (not (limit_lawful o.market o.limit)) (refused_at Place Limit) places in
    let quantities = test (not (leb 1 o.quantity && leb o.quantity most_quantity)) (refused_at Place Quantity) limits in
    let strategies = test (not (is_some (strategy_at s.strategies o.strategy))) (refused_at Place Strategy) quantities in
    let first = passed (not s.ready) (refused_at Opening Memory) strategies e in
    let second = passed (not (is_some (strategy_at s.strategies o.strategy))) (refused_at Place Strategy) quantities first.1 in
    let third = passed (not (leb 1 o.quantity && leb o.quantity most_quantity)) (refused_at Place Quantity) limits second.1 in
    let fourth = passed (not (limit_lawful o.market o.limit)) (refused_at Place Limit) places third.1 in
    let fifth = passed (leb order_places (length s.orders)) (refused_at Place BookFull) numbers fourth.1 in
    let sixth = passed (leb most_accepted s.accepted) (refused_at Place NumbersSpent) None fifth.1 in
    record { is_ready = is_not s.ready first.0; room = leb-false order_places (length s.orders) fifth.0; few = leb-false most_accepted s.accepted sixth.0 }

module _ (s : State) (o : NewOrder) (b : Lots) (room : ℕ) where
  pub place_refused : (why : Refusal) → Some why ≡ place_refusal s o → did s (place o) b room ≡ refuse s b why
  unfolding did
  place_refused why e = ap (λ r. unless r s b (place_on s b room o (strategy_at s.strategies o.strategy))) (sym e)

  pub placed_so : (legs : List Leg) (ready : Bool) (entry : List Order) (before after : List Execution) (os : List Order) (lots : Lots) (p : Placed) (m : ℕ) → None ≡ place_refusal s o → Some legs ≡ strategy_at s.strategies o.strategy → m ≡ o.strategy → ready ≡ s.ready → entry ≡ ranked_insert order_ahead (entered (s.accepted + 1) o) s.orders → Carried o (s.accepted + 1) legs m (steps legs m room (trading entry b)) before after (trading os lots) p
      → did s (place o) b room ≡ record { answer = placed p; executions = take p.records after; after = lots; next = record { ready = ready; strategies = s.strategies; orders = os; accepted = s.accepted + 1 } }
  unfolding did
  placed_so legs ready entry before after os lots p m e some numbered same into ended =
      let f = steps legs o.strategy room (trading entry b) in
      let end : Carried o (s.accepted + 1) legs o.strategy f before after (trading os lots) p = subst (λ m. Carried o (s.accepted + 1) legs m (steps legs m room (trading entry b)) before after (trading os lots) p) numbered ended in
      let xs = written_first f.executions before after p.records end.list end.records in
      ap (λ r. unless r s b (place_on s b room o (strategy_at s.strategies o.strategy))) (sym e) ∙ ap (place_on s b room o) (sym some)
      ∙ ap (λ os. placed_with s o legs (steps legs o.strategy room (trading os b))) (sym into)
      ∙ (λ i. record {
        answer = placed (record { number = sym end.number i; records = sym end.records i; executed = sym end.executed i; cancelled = sym end.cancelled i; outcome = sym end.outcome i });
        executions = sym xs i;
        after = sym end.lots i;
        next = record { ready = sym same i; strategies = s.strategies; orders = sym end.orders i; accepted = s.accepted + 1 };
      })

-- the order is entered, since there is room
pub entered_so : (os into : List Order) (e x : Order) (room : ℕ) (r : Bool) → eqb room 512 ≡ true → length os < 512 → r ≡ ltb (length os) room → into ≡ cond r (ranked_insert order_ahead e os) os → e ≡ x → into ≡ ranked_insert order_ahead x os
entered_so os into e x room r full few told is same =
    let places : room ≡ 512 = eqb-true room 512 full in
    let yes : r ≡ true = told ∙ lt-ltb (length os) room (omega arith) in
    is ∙ ap (λ r. cond r (ranked_insert order_ahead e os) os) yes ∙ ap (λ e. ranked_insert order_ahead e os) same
