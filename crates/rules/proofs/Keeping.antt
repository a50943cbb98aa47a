-- Every call keeps what is known of an engine.
use Rattle.std.proofs.Common.{◌≡◌, ℕ, ◌+◌, ◌<◌, ◌≤◌, Bool, true, false, cond, not, ◌&&◌, eqb, leb, ◌⊎◌, List, [], ◌∷◌, ◌++◌, length, is_some, Some, None, Option, sym, refl, ap, ◌∙◌, subst, inl, inr, ⊎_elim, arith}
use Rattle.std.specs.List.{ContainsAt as Has}
use Rattle.std.proofs.ByRecursion.{all_has_itself, All-weaker}
use Rattle.std.proofs.lemmas.List.{length-append}
use Rattle.std.proofs.lemmas.Bool.{true≢false, cases_eq, cond-true, cond-false, eq-eqb, ne_eqb, and_parts, leb-true}
use Rattle.refusals.specs.declared.reason.Reason.TheVariants.{Memory, Strategy, Quantity, Limit, BookFull, NumbersSpent}
use Rattle.refusals.specs.declared.station.Station.TheVariants.{Opening, Place}
use Rattle.refusals.specs.declared.refusal.Refusal.{Refusal}
use Rattle.refusals.specs.Refusals.{refused_at}
use Rattle.strategies.specs.declared.leg.Leg.{Leg}
use Rattle.strategies.specs.declared.row.StrategyRow.{StrategyRow}
use Rattle.strategies.specs.Rows.{row_legs, row_fault}
use Rattle.ranked.specs.Ranking.{ranked_insert, Absent}
use Rattle.rules.specs.declared.order.NewOrder.{NewOrder}
use Rattle.rules.specs.declared.order.Order.{Order}
use Rattle.rules.specs.declared.answer.Placed.{Placed}
use Rattle.rules.specs.Limits.{most_quantity, order_places, most_accepted}
use Rattle.rules.specs.Orders.{order_ahead, order_number, order_with, quantity_in, dropped, left_of}
use Rattle.rules.specs.Steps.{Trading, trading, Stepped, steps}
use Rattle.rules.specs.States.{State, opened, strategy_at}
use Rattle.rules.specs.Events.{Event, Call, define, place, cancel, Answer, defined, placed, evaluated, cancelled, refused, unread}
use Rattle.rules.specs.Calls.{test, is_immediate, entered, kept, place_refusal, limit_lawful}
use Rattle.rules.specs.Laws.{Accepted, sum, traded_of, executed, named, cancelled_by, cancelled_of, accepts, defines}
use Rattle.rules.proofs.Ready.{Ready}
use Rattle.rules.proofs.Trails.{Stepping, stepping}
use Rattle.rules.proofs.Accounts.{Same, Stems, same_trans, stems_refl, left_absent}
use Rattle.rules.proofs.Reductions.{ready_dropped, stems_dropped, left_dropped_same, left_dropped_other}
use Rattle.rules.proofs.Advances.{trail_ready, trail_stems, trail_account}
use Rattle.rules.proofs.Arrivals.{has_inserted, ready_inserted, left_inserted_same, left_inserted_other}
use Rattle.rules.proofs.Fairness.{fair_step}
use Rattle.rules.proofs.Tables.{strategy_added, strategy_before, strategy_cases}
use Rattle.rules.proofs.History.{sum_push, Accepts, Defines, accepted_now, accepted_cases, defined_later, defined_now, defined_cases, executed_more, cancelled_more}
use Rattle.rules.proofs.Effects.{Quiet, Does, Effect, quiet, defining, cancelling, evaluating, placing}
use Rattle.rules.proofs.Knowing.{Backed, Known, Unplaced, Undefined, backed_later, same_table, unaccepting}

-- answers of one kind are not of another
is_placed : Answer → ℕ
is_placed (defined n) = 0
is_placed (placed p) = 1
is_placed (evaluated v) = 0
is_placed (cancelled q) = 0
is_placed (refused why) = 0
is_placed (unread fault) = 0

is_defined : Answer → ℕ
is_defined (defined n) = 1
is_defined (placed p) = 0
is_defined (evaluated v) = 0
is_defined (cancelled q) = 0
is_defined (refused why) = 0
is_defined (unread fault) = 0

unplaced : (a : Answer) → accepts a ≡ 0 → Unplaced a
unplaced a none p e = let z : accepts a ≡ 1 = ap accepts e in absurd (omega arith)

undefined : (a : Answer) → defines a ≡ 0 → Undefined a
undefined a none n e = let z : defines a ≡ 1 = ap defines e in absurd (omega arith)

quiet_tells : (a : Answer) → Quiet a → (accepts a ≡ 0) × (defines a ≡ 0) × ((n : ℕ) (c : Call) → cancelled_by n c a ≡ 0)
quiet_tells (defined n) q = absurd q
quiet_tells (placed p) q = absurd q
quiet_tells (evaluated v) q = absurd q
quiet_tells (cancelled n) q = absurd q
quiet_tells (refused why) q = (refl, refl, λ n c. refl)
quiet_tells (unread fault) q = (refl, refl, λ n c. refl)

-- the opening
pub known_start : (ready : Bool) → Known [] (opened ready)
unfolding strategy_at order_with
known_start ready = record {
  table = record { long = refl; found = λ n legs d. absurd (omega (arith, d.among.1)); by = λ n legs e. let z : ◌≡◌ {A = ℕ} 0 1 = cc in absurd (omega arith) };
  ready = record { sorted = tt; distinct = tt; some = tt; numbered = tt };
  counted = refl;
  numbers = λ n o a. absurd (omega (arith, a.among.1));
  once = λ n o o' a b. absurd (omega (arith, a.among.1));
  backed = λ x has. absurd (omega (arith, has.1));
  conserved = λ n o a. absurd (omega (arith, a.among.1));
  fresh = λ n later. (refl, refl);
  idle = λ shut n o a. absurd (omega (arith, a.among.1));
}

module _ (h : List Event) (s : State) (k : Known h s) where
  -- an order at rest has a number that was given
  pub given : (x : Order) → Has s.orders x → (1 ≤ x.number) × (x.number ≤ s.accepted)
  given x has = let b = k.backed x has in k.numbers x.number b.order b.accepted

  -- so none has a later one
  pub absent : (n : ℕ) → s.accepted < n → Absent order_number n s.orders
  absent n later = All-weaker (Has s.orders) (λ x. x.number ≡ n → ⊥) (λ x has same. let g = given x has in omega (arith, g.1, same)) s.orders (all_has_itself s.orders)

  pub nothing_left : (n : ℕ) → s.accepted < n → left_of n s.orders ≡ 0
  nothing_left n later = left_absent n s.orders (absent n later)

  module _ (e : Event) (t : State) where
    abbrev longer : List Event
    longer = h ++ (e ∷ [])

    -- nothing changes
    known_quiet : Quiet e.answer → e.executions ≡ [] → t ≡ s → Known longer t
    known_quiet q none same =
        let told = quiet_tells e.answer q in
        let strategies : t.strategies ≡ s.strategies = ap (λ (u : State). u.strategies) same in
        let orders : t.orders ≡ s.orders = ap (λ (u : State). u.orders) same in
        unaccepting h s e t k
        (same_table h s e t k strategies (undefined e.answer told.1) told.1)
        (ap (λ (u : State). u.ready) same) (ap (λ (u : State). u.accepted) same)
        (unplaced e.answer told.0) told.0
        (subst Ready (sym orders) k.ready) (subst (Stems s.orders) (sym orders) (stems_refl s.orders))
        (λ n some.
        let traded : sum (traded_of n) e.executions ≡ 0 = ap (sum (traded_of n)) none in
        let gone : cancelled_by n e.call e.answer ≡ 0 = told.2 n e.call in
        let left : left_of n t.orders ≡ left_of n s.orders = ap (left_of n) orders in
        omega arith)
        nothing_left

    -- one strategy more
    known_defining : (row : StrategyRow) → s.ready ≡ true → e.call ≡ define row → row_fault row ≡ None → Does e t (record { answer = defined (length s.strategies); executions = []; after = e.before; next = record { ready = s.ready; strategies = s.strategies ++ (row ∷ []); orders = s.orders; accepted = s.accepted } }) → Known longer t
    known_defining row up call lawful does =
        let none : accepts e.answer ≡ 0 = ap accepts does.answer in
        let strategies : t.strategies ≡ s.strategies ++ (row ∷ []) = ap (λ (u : State). u.strategies) does.next in
        let orders : t.orders ≡ s.orders = ap (λ (u : State). u.orders) does.next in
        let one : defines e.answer ≡ 1 = ap defines does.answer in
        let here : Defines e (length s.strategies) (row_legs row) = record { row = row; defining = call; answering = does.answer; counted = refl } in
        unaccepting h s e t k
        (record {
          long = ap length strategies ∙ length-append s.strategies (row ∷ []) ∙ sym (sum_push (λ e. defines e.answer) h e ∙ omega (arith, one, k.table.long));
          found = λ n legs d.
              ap (λ rows. strategy_at rows n) strategies
              ∙ ⊎_elim (λ old. strategy_before s.strategies row n legs (k.table.found n legs old))
              (λ new. redefined n legs new)
              (defined_cases h e n legs d);
          by = λ n legs f.
              ⊎_elim (λ old. defined_later h e n legs (k.table.by n legs old))
              (λ new. defined_now h e n legs (subst (λ m. Defines e m legs) (sym new.0) (subst (λ ls. Defines e (length s.strategies) ls) (sym new.1) here)))
              (strategy_cases s.strategies row n legs (sym (ap (λ rows. strategy_at rows n) strategies) ∙ f));
        })
        (ap (λ (u : State). u.ready) does.next) (ap (λ (u : State). u.accepted) does.next)
        (unplaced e.answer none) none
        (subst Ready (sym orders) k.ready) (subst (Stems s.orders) (sym orders) (stems_refl s.orders))
        (λ n some.
        let traded : sum (traded_of n) e.executions ≡ 0 = ap (sum (traded_of n)) does.executions in
        let gone : cancelled_by n e.call e.answer ≡ 0 = ap (cancelled_by n e.call) does.answer in
        let left : left_of n t.orders ≡ left_of n s.orders = ap (left_of n) orders in
        omega arith)
        nothing_left
      where
        -- the call says once what it defines
        redefined : (n : ℕ) (legs : List Leg) → Defines e n legs → strategy_at (s.strategies ++ (row ∷ [])) n ≡ Some legs
        redefined n legs d =
            let same : define d.row ≡ define row = sym d.defining ∙ call in
            let rows : d.row ≡ row = cc in
            let told : defined n ≡ defined (length s.strategies) = sym d.answering ∙ does.answer in
            let number : n ≡ length s.strategies = cc in
            rw (number, d.counted, rows) (strategy_added s.strategies row lawful)

    -- one order less
    known_cancelling : (n : ℕ) (o : Order) → e.call ≡ cancel n → order_with n s.orders ≡ Some o → e.answer ≡ cancelled o.quantity → e.executions ≡ [] → t ≡ record { ready = s.ready; strategies = s.strategies; orders = dropped n s.orders; accepted = s.accepted } → Known longer t
    known_cancelling n o call found answer none next =
        let zero : accepts e.answer ≡ 0 = ap accepts answer in
        let plain : defines e.answer ≡ 0 = ap defines answer in
        let strategies : t.strategies ≡ s.strategies = ap (λ (u : State). u.strategies) next in
        let orders : t.orders ≡ dropped n s.orders = ap (λ (u : State). u.orders) next in
        unaccepting h s e t k
        (same_table h s e t k strategies (undefined e.answer plain) plain)
        (ap (λ (u : State). u.ready) next) (ap (λ (u : State). u.accepted) next)
        (unplaced e.answer zero) zero
        (subst Ready (sym orders) (ready_dropped n s.orders k.ready))
        (subst (Stems s.orders) (sym orders) (stems_dropped n s.orders))
        (λ m some.
        let traded : sum (traded_of m) e.executions ≡ 0 = ap (sum (traded_of m)) none in
        let left : left_of m t.orders ≡ left_of m (dropped n s.orders) = ap (left_of m) orders in
        let gone : cancelled_by m e.call e.answer ≡ cond (eqb n m) o.quantity 0 = ap (cancelled_by m e.call) answer ∙ ap (λ c. cond (eqb (named c) m) o.quantity 0) call in
        let all : left_of m s.orders ≡ cond (eqb n m) o.quantity 0 + left_of m (dropped n s.orders) = account m in
        omega arith)
        nothing_left
      where
        account : (m : ℕ) → left_of m s.orders ≡ cond (eqb n m) o.quantity 0 + left_of m (dropped n s.orders)
        account m =
            ⊎_elim
            (λ same.
            let here : cond (eqb n m) o.quantity 0 ≡ o.quantity = cond-true (eqb n m) o.quantity 0 (eq-eqb n m same) in
            let whole : left_of m s.orders ≡ o.quantity = ap (λ i. left_of i s.orders) (sym same) ∙ ap quantity_in found in
            let left : left_of m (dropped n s.orders) ≡ 0 = ap (λ i. left_of i (dropped n s.orders)) (sym same) ∙ left_dropped_same n s.orders k.ready in
            omega arith)
            (λ other.
            let here : cond (eqb n m) o.quantity 0 ≡ 0 = cond-false (eqb n m) o.quantity 0 (ne_eqb n m other) in
            let left : left_of m (dropped n s.orders) ≡ left_of m s.orders = left_dropped_other n m s.orders other in
            omega arith)
            (cases_eq n m)

    -- steps of a strategy
    known_evaluating : (n : ℕ) (legs : List Leg) (f : Stepped) → Stepping legs n e.room (trading s.orders e.before) f → accepts e.answer ≡ 0 → defines e.answer ≡ 0 → ((m : ℕ) → cancelled_by m e.call e.answer ≡ 0) → e.executions ≡ f.executions → t ≡ record { ready = s.ready; strategies = s.strategies; orders = f.left.orders; accepted = s.accepted } → Known longer t
    known_evaluating n legs f ran zero plain uncancelled records next =
        let strategies : t.strategies ≡ s.strategies = ap (λ (u : State). u.strategies) next in
        let orders : t.orders ≡ f.left.orders = ap (λ (u : State). u.orders) next in
        let start : Trading = trading s.orders e.before in
        unaccepting h s e t k
        (same_table h s e t k strategies (undefined e.answer plain) plain)
        (ap (λ (u : State). u.ready) next) (ap (λ (u : State). u.accepted) next)
        (unplaced e.answer zero) zero
        (subst Ready (sym orders) (trail_ready legs n start f.executions f.left k.ready ran.trail))
        (subst (Stems s.orders) (sym orders) (trail_stems legs n start f.executions f.left ran.trail))
        (λ m some.
        let gone = uncancelled m in
        let traded : sum (traded_of m) e.executions ≡ sum (traded_of m) f.executions = ap (sum (traded_of m)) records in
        let left : left_of m t.orders ≡ left_of m f.left.orders = ap (left_of m) orders in
        let all : left_of m s.orders ≡ sum (traded_of m) f.executions + left_of m f.left.orders = trail_account legs n (λ os b y r q. fair_step legs n os b y r q) start f.executions f.left k.ready ran.trail m some in
        omega arith)
        nothing_left

    -- one order more, and steps of its strategy
    module _ (o : NewOrder) (legs : List Leg) (f : Stepped) (p : Placed) where
      abbrev n : ℕ
      n = s.accepted + 1

      abbrev book : List Order
      book = ranked_insert order_ahead (entered n o) s.orders

      known_placing :
          s.ready ≡ true → 1 ≤ o.quantity → e.call ≡ place o → e.answer ≡ placed p → p.number ≡ n
          → p.cancelled ≡ cond (is_immediate o.time_in_force) (left_of n f.left.orders) 0
          → Stepping legs o.strategy e.room (trading book e.before) f → e.executions ≡ f.executions
          → t ≡ record { ready = s.ready; strategies = s.strategies; orders = kept o n f.left.orders; accepted = n }
          → Known longer t
      known_placing up some call answer number remainder ran records next = record {
        table = same_table h s e t k strategies (undefined e.answer plain) plain;
        ready = subst Ready (sym orders) rest_ready;
        counted = count ∙ sym (sum_push (λ e. accepts e.answer) h e ∙ omega (arith, one, k.counted));
        numbers = λ m x a. ⊎_elim (λ old. let g = k.numbers m x old in (g.0, omega (arith, count, g.1))) (λ new. let same = accepts_number m x new in (omega arith, omega (arith, count))) (accepted_cases h e m x a);
        once = λ m x y a b. unique m x y (accepted_cases h e m x a) (accepted_cases h e m y b);
        backed = λ x has. rest_backed x (subst (λ os. Has os x) orders has);
        conserved = λ m x a. ⊎_elim (λ old. conserved_old m x old) (λ new. conserved_new m x new) (accepted_cases h e m x a);
        fresh = λ m later. fresh_later m (omega (arith, count));
        idle = λ shut. absurd (true≢false (sym up ∙ sym (ap (λ (u : State). u.ready) next) ∙ shut));
      }
        where
          one : accepts e.answer ≡ 1
          one = ap accepts answer

          plain : defines e.answer ≡ 0
          plain = ap defines answer

          strategies : t.strategies ≡ s.strategies
          strategies = ap (λ (u : State). u.strategies) next

          orders : t.orders ≡ kept o n f.left.orders
          orders = ap (λ (u : State). u.orders) next

          count : t.accepted ≡ n
          count = ap (λ (u : State). u.accepted) next

          free : Absent order_number n s.orders
          free = absent n (omega arith)

          book_ready : Ready book
          book_ready = ready_inserted (entered n o) s.orders k.ready some (omega arith) free

          left_ready : Ready f.left.orders
          left_ready = trail_ready legs o.strategy (trading book e.before) f.executions f.left book_ready ran.trail

          rest_ready : Ready (kept o n f.left.orders)
          rest_ready = elim (is_immediate o.time_in_force) as (λ i. Ready (cond i (dropped n f.left.orders) f.left.orders)) [ true ↦ ready_dropped n f.left.orders left_ready | false ↦ left_ready ]

          rest_stems : Stems f.left.orders (kept o n f.left.orders)
          rest_stems = elim (is_immediate o.time_in_force) as (λ i. Stems f.left.orders (cond i (dropped n f.left.orders) f.left.orders)) [ true ↦ stems_dropped n f.left.orders | false ↦ stems_refl f.left.orders ]

          new : Accepts e n o
          new = record { placing = call; told = p; answering = answer; number = number }

          backed_as : (y x : Order) → Same y x → y ≡ entered n o → Backed longer x
          backed_as y x same mine = record {
            order = o;
            accepted = accepted_now h e x.number o (subst (λ m. Accepts e m o) (sym (ap (λ (z : Order). z.number) mine) ∙ same.number) new);
            strategy = sym same.strategy ∙ ap (λ (z : Order). z.strategy) mine;
            side = sym same.buy ∙ ap (λ (z : Order). z.buy) mine;
            limit = sym same.limit ∙ ap (λ (z : Order). z.limit) mine;
          }

          rest_backed : (x : Order) → Has (kept o n f.left.orders) x → Backed longer x
          rest_backed x has =
              let a = rest_stems x has in
              let b = trail_stems legs o.strategy (trading book e.before) f.executions f.left ran.trail a.0 a.1 in
              let same : Same b.0 x = same_trans b.0 a.0 x b.2 a.2 in
              ⊎_elim
              (λ mine. backed_as b.0 x same mine)
              (λ old. backed_later h e b.0 x same (k.backed b.0 old))
              (has_inserted (entered n o) s.orders b.0 b.1)

          accepts_number : (m : ℕ) (x : NewOrder) → Accepts e m x → m ≡ n
          accepts_number m x a =
              let told : placed a.told ≡ placed p = sym a.answering ∙ answer in
              let same : a.told ≡ p = cc in
              sym a.number ∙ ap (λ (q : Placed). q.number) same ∙ number

          accepts_order : (m : ℕ) (x : NewOrder) → Accepts e m x → x ≡ o
          accepts_order m x a = let same : place x ≡ place o = sym a.placing ∙ call in cc

          unique : (m : ℕ) (x y : NewOrder) → Accepted h m x ⊎ Accepts e m x → Accepted h m y ⊎ Accepts e m y → x ≡ y
          unique m x y (inl a) (inl b) = k.once m x y a b
          unique m x y (inl a) (inr b) = let g = k.numbers m x a in let z = accepts_number m y b in absurd (omega (arith, g.1, z))
          unique m x y (inr a) (inl b) = let g = k.numbers m y b in let z = accepts_number m x a in absurd (omega (arith, g.1, z))
          unique m x y (inr a) (inr b) = accepts_order m x a ∙ sym (accepts_order m y b)

          -- what is left of each order, call by call
          gone : (m : ℕ) → cancelled_by m e.call e.answer ≡ cond (eqb n m) (cond (is_immediate o.time_in_force) (left_of n f.left.orders) 0) 0
          gone m = ap (cancelled_by m e.call) answer ∙ ap (λ i. cond (eqb i m) p.cancelled 0) number ∙ ap (λ q. cond (eqb n m) q 0) remainder

          traded : (m : ℕ) → sum (traded_of m) e.executions ≡ sum (traded_of m) f.executions
          traded m = ap (sum (traded_of m)) records

          account : (m : ℕ) → 1 ≤ m → left_of m book ≡ sum (traded_of m) f.executions + left_of m f.left.orders
          account m positive = trail_account legs o.strategy (λ os b y r q. fair_step legs o.strategy os b y r q) (trading book e.before) f.executions f.left book_ready ran.trail m positive

          left_kept_other : (m : ℕ) → (n ≡ m → ⊥) → left_of m (kept o n f.left.orders) ≡ left_of m f.left.orders
          left_kept_other m other = elim (is_immediate o.time_in_force) as (λ i. left_of m (cond i (dropped n f.left.orders) f.left.orders) ≡ left_of m f.left.orders) [ true ↦ left_dropped_other n m f.left.orders other | false ↦ refl ]

          left_kept_same : left_of n f.left.orders ≡ cond (is_immediate o.time_in_force) (left_of n f.left.orders) 0 + left_of n (kept o n f.left.orders)
          left_kept_same = elim (is_immediate o.time_in_force) as (λ i. left_of n f.left.orders ≡ cond i (left_of n f.left.orders) 0 + left_of n (cond i (dropped n f.left.orders) f.left.orders)) [ true ↦ omega (arith, left_dropped_same n f.left.orders left_ready) | false ↦ omega arith ]

          left_now : (m : ℕ) → left_of m t.orders ≡ left_of m (kept o n f.left.orders)
          left_now m = ap (left_of m) orders

          others : (m : ℕ) → (n ≡ m → ⊥) → 1 ≤ m → left_of m s.orders ≡ sum (traded_of m) e.executions + cancelled_by m e.call e.answer + left_of m t.orders
          others m other positive =
              let a = account m positive in
              let b : left_of m book ≡ left_of m s.orders = left_inserted_other (entered n o) s.orders m (λ same. other (sym same)) in
              let c : cond (eqb n m) (cond (is_immediate o.time_in_force) (left_of n f.left.orders) 0) 0 ≡ 0 = cond-false (eqb n m) (cond (is_immediate o.time_in_force) (left_of n f.left.orders) 0) 0 (ne_eqb n m other) in
              let d = left_kept_other m other in
              let x = gone m in
              let y = traded m in
              let z = left_now m in
              omega arith

          conserved_old : (m : ℕ) (x : NewOrder) → Accepted h m x → x.quantity ≡ executed longer m + cancelled_of longer m + left_of m t.orders
          conserved_old m x old =
              let g = k.numbers m x old in
              let before = k.conserved m x old in
              let now = others m (λ same. omega (arith, g.1, same)) g.0 in
              omega (arith, executed_more h e m, cancelled_more h e m)

          conserved_here : o.quantity ≡ executed longer n + cancelled_of longer n + left_of n t.orders
          conserved_here =
              let a = account n (omega arith) in
              let b : left_of n book ≡ o.quantity = left_inserted_same (entered n o) s.orders k.ready some (omega arith) free in
              let c : cond (eqb n n) (cond (is_immediate o.time_in_force) (left_of n f.left.orders) 0) 0 ≡ cond (is_immediate o.time_in_force) (left_of n f.left.orders) 0 = cond-true (eqb n n) (cond (is_immediate o.time_in_force) (left_of n f.left.orders) 0) 0 (eq-eqb n n refl) in
              let d = left_kept_same in
              let new_one = k.fresh n (omega arith) in
              let x = gone n in
              let y = traded n in
              let z = left_now n in
              omega (arith, executed_more h e n, cancelled_more h e n, new_one.0, new_one.1)

          conserved_new : (m : ℕ) (x : NewOrder) → Accepts e m x → x.quantity ≡ executed longer m + cancelled_of longer m + left_of m t.orders
          conserved_new m x a = rw (accepts_number m x a, accepts_order m x a) conserved_here

          fresh_later : (m : ℕ) → n < m → (executed longer m ≡ 0) × (cancelled_of longer m ≡ 0)
          fresh_later m later =
              let now = others m (λ same. omega (arith, same)) (omega arith) in
              let none = nothing_left m (omega arith) in
              let old = k.fresh m (omega arith) in
              (omega (arith, executed_more h e m, old.0), omega (arith, cancelled_more h e m, old.1))

-- a place that is accepted is for at least 1
third : (a b c : Bool) (x y z : Refusal) (next : Option Refusal) → test a x (test b y (test c z next)) ≡ None → c ≡ false
third true b c x y z next e = let w : ◌≡◌ {A = ℕ} 0 1 = cc in absurd (omega arith)
third false true c x y z next e = let w : ◌≡◌ {A = ℕ} 0 1 = cc in absurd (omega arith)
third false false true x y z next e = let w : ◌≡◌ {A = ℕ} 0 1 = cc in absurd (omega arith)
third false false false x y z next e = refl

not-false : (b : Bool) → not b ≡ false → b ≡ true
not-false true e = refl
not-false false e = sym e

pub some_placed : (s : State) (o : NewOrder) → place_refusal s o ≡ None → 1 ≤ o.quantity
some_placed s o none =
    let within : Bool = leb 1 o.quantity && leb o.quantity most_quantity in
    let kept = not-false within (third (not s.ready) (not (is_some (strategy_at s.strategies o.strategy))) (not within) (refused_at Opening Memory) (refused_at Place Strategy) (refused_at Place Quantity) (test (not (limit_lawful o.market o.limit)) (refused_at Place Limit) (test (leb order_places (length s.orders)) (refused_at Place BookFull) (test (leb most_accepted s.accepted) (refused_at Place NumbersSpent) None))) none) in
    leb-true 1 o.quantity (and_parts (leb 1 o.quantity) (leb o.quantity most_quantity) kept).0

pub known_more : (h : List Event) (s : State) (e : Event) (t : State) → Known h s → Effect s e t → Known (h ++ (e ∷ [])) t
known_more h s e t k (quiet q none same-lots same) = known_quiet h s k e t q none same
known_more h s e t k (defining row up call lawful does) = known_defining h s k e t row up call lawful does
known_more h s e t k (cancelling n o up call found does) = known_cancelling h s k e t n o call found does.answer does.executions does.next
known_more h s e t k (evaluating n legs up call found does) =
    known_evaluating h s k e t n legs (steps legs n e.room (trading s.orders e.before)) (stepping legs n e.room (trading s.orders e.before))
    (ap accepts does.answer) (ap defines does.answer) (λ m. ap (cancelled_by m e.call) does.answer) does.executions does.next
known_more h s e t k (placing o legs up call none found does) =
    let start : Trading = trading (ranked_insert order_ahead (entered (s.accepted + 1) o) s.orders) e.before in
    known_placing h s k e t o legs (steps legs o.strategy e.room start) _
    up (some_placed s o none) call does.answer refl refl (stepping legs o.strategy e.room start) does.executions does.next
