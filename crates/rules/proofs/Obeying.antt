-- Every list of calls obeys the law.
use Rattle.std.proofs.Common.{◌≡◌, ℕ, ◌+◌, ◌-◌, ◌≤◌, Bool, true, false, cond, ◌||◌, List, [], ◌∷◌, ◌++◌, length, Some, sym, refl, ap, ◌∙◌, subst, ⊎_elim, arith}
use Rattle.std.specs.List.{ContainsAt as Has}
use Rattle.std.proofs.lemmas.List.{same_from_push, length_push}
use Rattle.simple.specs.declared.lot.Side.{Side}
use Rattle.simple.specs.Lots.{Lots, contracts}
use Rattle.strategies.specs.declared.leg.Leg.{Leg}
use Rattle.strategies.specs.Lawful.{Exactly}
use Rattle.ranked.specs.Ranking.{ranked_insert}
use Rattle.rules.specs.declared.order.NewOrder.{NewOrder}
use Rattle.rules.specs.declared.order.Order.{Order}
use Rattle.rules.specs.declared.execution.Execution.{Execution}
use Rattle.rules.specs.declared.answer.Outcome.{Outcome}
use Rattle.rules.specs.declared.answer.Outcome.TheVariants.{AtRest, More}
use Rattle.rules.specs.Orders.{order_ahead, left_of, dropped}
use Rattle.rules.specs.Steps.{Trading, trading, Stepped, steps}
use Rattle.rules.specs.States.{State, strategy_at}
use Rattle.rules.specs.Events.{Event, Call, place, evaluate, Answer, defined, placed, evaluated, cancelled, refused, unread}
use Rattle.rules.specs.Calls.{entered, kept, is_immediate, outcome, outcome_of, placed_with}
use Rattle.rules.specs.Runs.{Run, start, further}
use Rattle.rules.specs.Laws.{Accepted, Defined, sum, traded_of, executed, cancelled_of, resting, Executing, TakenIn, TakenOver, before_calls, after_calls, Settled, stepped, Rested, Told, Law, Theorem}
use Rattle.rules.proofs.Ready.{Ready, Still}
use Rattle.rules.proofs.Trails.{Stepping, stepping}
use Rattle.rules.proofs.Accounts.{Stems, same_refl, stems_refl}
use Rattle.rules.proofs.Reductions.{stems_dropped}
use Rattle.rules.proofs.Advances.{trail_ready, trail_account}
use Rattle.rules.proofs.Arrivals.{has_inserted, ready_inserted, left_inserted_same}
use Rattle.rules.proofs.Settling.{no_step}
use Rattle.rules.proofs.Fairness.{fair_step}
use Rattle.rules.proofs.Tables.{steady}
use Rattle.rules.proofs.History.{sum_push, Accepts, accepted_now, defined_later}
use Rattle.rules.proofs.Effects.{Quiet, Does, Effect, quiet, defining, cancelling, evaluating, placing, effect}
use Rattle.rules.proofs.Knowing.{Backed, Known, backed_later}
use Rattle.rules.proofs.Keeping.{known_start, absent, some_placed, known_more}
use Rattle.rules.proofs.Tracing.{executing, moving}
use Rattle.rules.proofs.Resting.{resting_left, still_fewer, rested}

-- in all calls of a list, the legged executions took what the sides have less
abbrev pub MovedAll : List Event → Type 0
MovedAll h = (s : ℕ) (d : Side) → (k : ℕ) × TakenOver h s d h k × (before_calls s d h ≡ k + after_calls s d h)

module _ (h : List Event) (e : Event) (s : ℕ) (d : Side) where
  taken_later : (xs : List Execution) (k : ℕ) → TakenIn h s d xs k → TakenIn (h ++ (e ∷ [])) s d xs k
  taken_later [] k t = t
  taken_later (x ∷ xs) k t = (t.0, defined_later h e x.strategy t.0 t.1, t.2, taken_later xs t.2 t.3, t.4)

  taken_all_later : (es : List Event) (k : ℕ) → TakenOver h s d es k → TakenOver (h ++ (e ∷ [])) s d es k
  taken_all_later [] k t = t
  taken_all_later (x ∷ es) k t = (t.0, t.1, taken_later x.executions t.0 t.2, taken_all_later es t.1 t.3, t.4)

taken_push : (h : List Event) (s : ℕ) (d : Side) (es : List Event) (e : Event) (k m : ℕ) → TakenOver h s d es k → TakenIn h s d e.executions m → TakenOver h s d (es ++ (e ∷ [])) (k + m)
taken_push h s d [] e k m t u = (m, 0, u, refl, omega (arith, t))
taken_push h s d (x ∷ es) e k m t u = (t.0, t.1 + m, t.2, taken_push h s d es e t.1 m t.3 u, omega (arith, t.4))

moved_more : (h : List Event) (e : Event) → MovedAll h → ((s : ℕ) (d : Side) → (k : ℕ) × TakenIn (h ++ (e ∷ [])) s d e.executions k × (contracts (e.before s d) ≡ k + contracts (e.after s d))) → MovedAll (h ++ (e ∷ []))
moved_more h e all now s d =
    let old = all s d in
    let new = now s d in
    let before = sum_push (λ e. contracts (e.before s d)) h e in
    let after = sum_push (λ e. contracts (e.after s d)) h e in
    (old.0 + new.0, taken_push (h ++ (e ∷ [])) s d h e old.0 new.0 (taken_all_later h e s d h old.0 old.1) new.1, omega (arith, old.2, new.2, before, after))

-- what a quiet answer tells
quiet_told : (h : List Event) (a : Answer) (xs : List Execution) (room : ℕ) → Quiet a → length xs ≡ 0 → Told h a xs room
quiet_told h (defined n) xs room q none = absurd q
quiet_told h (placed p) xs room q none = absurd q
quiet_told h (evaluated v) xs room q none = absurd q
quiet_told h (cancelled n) xs room q none = absurd q
quiet_told h (refused why) xs room q none = none
quiet_told h (unread fault) xs room q none = none

quiet_rested : (h : List Event) (u : State) (c : Call) (a : Answer) (b : Lots) → Quiet a → Rested h u c a b
quiet_rested h u c (defined n) b q = absurd q
quiet_rested h u c (placed p) b q = absurd q
quiet_rested h u c (evaluated v) b q = absurd q
quiet_rested h u c (cancelled n) b q = absurd q
quiet_rested h u c (refused why) b q = tt
quiet_rested h u c (unread fault) b q = tt

-- "more" is said only where steps did not end by themselves
unsettled : (settled no_step : Bool) → outcome (settled || no_step) ≡ More → settled ≡ false
unsettled true n e = let z : ◌≡◌ {A = ℕ} 0 1 = cc in absurd (omega arith)
unsettled false n e = refl

module _ (h : List Event) (s : State) (k : Known h s) (e : Event) (t : State) (done : Effect s e t) where
  abbrev longer : List Event
  longer = h ++ (e ∷ [])

  now : Known longer t
  now = known_more h s e t k done

  conserved : (n : ℕ) (o : NewOrder) → Accepted longer n o → o.quantity ≡ executed longer n + cancelled_of longer n + resting t n
  conserved n o a = go t.ready refl
    where
      go : (r : Bool) → t.ready ≡ r → o.quantity ≡ executed longer n + cancelled_of longer n + resting t n
      go true up = omega (arith, now.conserved n o a, resting_left t n up)
      go false shut = absurd (now.idle shut n o a)

  -- a call without executions
  module _ (none : e.executions ≡ []) (same : e.after ≡ e.before) where
    idle_executing : Executing longer e.before e.executions e.after
    idle_executing = subst (λ xs. Executing longer e.before xs e.after) (sym none) same

    idle_moved : (n : ℕ) (d : Side) → (m : ℕ) × TakenIn longer n d e.executions m × (contracts (e.before n d) ≡ m + contracts (e.after n d))
    idle_moved n d = (0, subst (λ xs. TakenIn longer n d xs 0) (sym none) refl, let here : contracts (e.after n d) ≡ contracts (e.before n d) = ap (λ (b : Lots). contracts (b n d)) same in omega arith)

  -- a call with steps of a strategy
  module _ (n : ℕ) (legs : List Leg) (found : strategy_at s.strategies n ≡ Some legs) (os : List Order) (f : Stepped) (ran : Stepping legs n e.room (trading os e.before) f) (ready : Ready os) (backed : (x : Order) → Has os x → Backed longer x) (records : e.executions ≡ f.executions) (left : e.after ≡ f.left.lots) where
    known_legs : Defined longer n legs
    known_legs = defined_later h e n legs (k.table.by n legs found)

    steps_executing : Executing longer e.before e.executions e.after
    steps_executing =
        let own = executing longer legs n known_legs (steady s.strategies n legs found) (trading os e.before) f.executions f.left ready backed ran.trail in
        subst (λ b. Executing longer e.before e.executions b) (sym left) (subst (λ xs. Executing longer e.before xs f.left.lots) (sym records) own)

    steps_moved : (m : ℕ) (d : Side) → (q : ℕ) × TakenIn longer m d e.executions q × (contracts (e.before m d) ≡ q + contracts (e.after m d))
    steps_moved m d =
        let own = moving longer legs n known_legs (steady s.strategies n legs found) m d (trading os e.before) f.executions f.left ready backed ran.trail in
        let here : contracts (e.after m d) ≡ contracts (f.left.lots m d) = ap (λ (b : Lots). contracts (b m d)) left in
        (own.0, subst (λ xs. TakenIn longer m d xs own.0) (sym records) own.1, omega (arith, own.2))

    steps_ended : (fewer : List Order) → Stems f.left.orders fewer → f.settled ≡ true → Still legs n fewer f.left.lots
    steps_ended fewer stems settled =
        let after = trail_ready legs n (trading os e.before) f.executions f.left ready ran.trail in
        still_fewer legs n f.left.orders fewer f.left.lots after stems (no_step legs n f.left.orders f.left.lots after (ran.ended settled))

  law_quiet : Quiet e.answer → e.executions ≡ [] → e.after ≡ e.before → MovedAll h → Law h e t
  law_quiet q none same all = record {
    executions = idle_executing none same;
    moved = idle_moved none same;
    moved_in_all = moved_more h e all (idle_moved none same);
    conserved = conserved;
    rested = quiet_rested longer t e.call e.answer e.after q;
    told = quiet_told h e.answer e.executions e.room q (ap length none);
  }

  -- an answer that tells of no steps
  law_idle : (a : Answer) → e.answer ≡ a → e.executions ≡ [] → e.after ≡ e.before → MovedAll h → Rested longer t e.call a e.after → Told h a [] e.room → Law h e t
  law_idle a answer none same all rest told = record {
    executions = idle_executing none same;
    moved = idle_moved none same;
    moved_in_all = moved_more h e all (idle_moved none same);
    conserved = conserved;
    rested = subst (λ x. Rested longer t e.call x e.after) (sym answer) rest;
    told = subst (λ x. Told h x e.executions e.room) (sym answer) (subst (λ xs. Told h a xs e.room) (sym none) told);
  }

  law_evaluating : (n : ℕ) (legs : List Leg) (f : Stepped) → s.ready ≡ true → e.call ≡ evaluate n → strategy_at s.strategies n ≡ Some legs → Stepping legs n e.room (trading s.orders e.before) f → e.answer ≡ evaluated (record { records = length f.executions; outcome = outcome_of legs n f f.left.orders }) → e.executions ≡ f.executions → e.after ≡ f.left.lots → t ≡ record { ready = s.ready; strategies = s.strategies; orders = f.left.orders; accepted = s.accepted } → MovedAll h → Law h e t
  law_evaluating n legs f up call found ran answer records left next all =
      let backed : (x : Order) → Has s.orders x → Backed longer x = λ x has. backed_later h e x x (same_refl x) (k.backed x has) in
      record {
        executions = steps_executing n legs found s.orders f ran k.ready backed records left;
        moved = steps_moved n legs found s.orders f ran k.ready backed records left;
        moved_in_all = moved_more h e all (steps_moved n legs found s.orders f ran k.ready backed records left);
        conserved = conserved;
        rested = subst (λ x. Rested longer t e.call x e.after) (sym answer) (subst (λ c. Exactly (outcome_of legs n f f.left.orders ≡ AtRest) (Settled longer t (stepped c) e.after)) (sym call) (subst (λ b. Exactly (outcome_of legs n f f.left.orders ≡ AtRest) (Settled longer t n b)) (sym left) rest));
        told = subst (λ x. Told h x e.executions e.room) (sym answer) (sym (ap length records), ran.within, λ more. ran.full (unsettled f.settled _ more));
      }
    where
      orders : t.orders ≡ f.left.orders
      orders = ap (λ (u : State). u.orders) next

      rest : Exactly (outcome_of legs n f f.left.orders ≡ AtRest) (Settled longer t n f.left.lots)
      rest =
          subst (λ os. Exactly (outcome_of legs n f os ≡ AtRest) (Settled longer t n f.left.lots)) orders
          (rested longer t now (ap (λ (u : State). u.ready) next ∙ up) n legs (ap (λ (u : State). strategy_at u.strategies n) next ∙ found) f
          (λ settled. subst (λ os. Still legs n os f.left.lots) (sym orders) (steps_ended n legs found s.orders f ran k.ready (λ x has. backed_later h e x x (same_refl x) (k.backed x has)) records left f.left.orders (stems_refl f.left.orders) settled)))

  law_placing : (o : NewOrder) (legs : List Leg) (f : Stepped) → s.ready ≡ true → e.call ≡ place o → 1 ≤ o.quantity → strategy_at s.strategies o.strategy ≡ Some legs
      → Stepping legs o.strategy e.room (trading (ranked_insert order_ahead (entered (s.accepted + 1) o) s.orders) e.before) f
      → Does e t (placed_with s o legs f) → MovedAll h → Law h e t
  law_placing o legs f up call some found ran does all = record {
    executions = steps_executing o.strategy legs found book f ran ready backed does.executions does.after;
    moved = steps_moved o.strategy legs found book f ran ready backed does.executions does.after;
    moved_in_all = moved_more h e all (steps_moved o.strategy legs found book f ran ready backed does.executions does.after);
    conserved = conserved;
    rested = subst (λ x. Rested longer t e.call x e.after) (sym does.answer) (subst (λ c. Exactly (said ≡ AtRest) (Settled longer t (stepped c) e.after)) (sym call) (subst (λ b. Exactly (said ≡ AtRest) (Settled longer t o.strategy b)) (sym does.after) rest));
    told = subst (λ x. Told h x e.executions e.room) (sym does.answer) (
      omega (arith, k.counted),
      sym (ap length does.executions),
      own,
      ran.within,
      λ more. ran.full (unsettled f.settled _ more),
    );
  }
    where
      n : ℕ
      n = s.accepted + 1

      book : List Order
      book = ranked_insert order_ahead (entered (s.accepted + 1) o) s.orders

      left : List Order
      left = kept o (s.accepted + 1) f.left.orders

      said : Outcome
      said = outcome_of legs o.strategy f (kept o (s.accepted + 1) f.left.orders)

      ready : Ready (ranked_insert order_ahead (entered (s.accepted + 1) o) s.orders)
      ready = ready_inserted (entered (s.accepted + 1) o) s.orders k.ready some (omega arith) (absent h s k (s.accepted + 1) (omega arith))

      new : Accepts e (s.accepted + 1) o
      new = record { placing = call; told = _; answering = does.answer; number = refl }

      backed : (x : Order) → Has (ranked_insert order_ahead (entered (s.accepted + 1) o) s.orders) x → Backed longer x
      backed x has =
          ⊎_elim
          (λ mine. subst (Backed longer) (sym mine) (record { order = o; accepted = accepted_now h e (s.accepted + 1) o new; strategy = refl; side = refl; limit = refl }))
          (λ old. backed_later h e x x (same_refl x) (k.backed x old))
          (has_inserted (entered (s.accepted + 1) o) s.orders x has)

      fewer : Stems f.left.orders (kept o (s.accepted + 1) f.left.orders)
      fewer = elim (is_immediate o.time_in_force) as (λ i. Stems f.left.orders (cond i (dropped (s.accepted + 1) f.left.orders) f.left.orders)) [ true ↦ stems_dropped (s.accepted + 1) f.left.orders | false ↦ stems_refl f.left.orders ]

      orders : t.orders ≡ kept o (s.accepted + 1) f.left.orders
      orders = ap (λ (u : State). u.orders) does.next

      rest : Exactly (outcome_of legs o.strategy f (kept o (s.accepted + 1) f.left.orders) ≡ AtRest) (Settled longer t o.strategy f.left.lots)
      rest =
          subst (λ os. Exactly (outcome_of legs o.strategy f os ≡ AtRest) (Settled longer t o.strategy f.left.lots)) orders
          (rested longer t now (ap (λ (u : State). u.ready) does.next ∙ up) o.strategy legs (ap (λ (u : State). strategy_at u.strategies o.strategy) does.next ∙ found) f
          (λ settled. subst (λ os. Still legs o.strategy os f.left.lots) (sym orders) (steps_ended o.strategy legs found (ranked_insert order_ahead (entered (s.accepted + 1) o) s.orders) f ran ready backed does.executions does.after (kept o (s.accepted + 1) f.left.orders) fewer settled)))

      own : o.quantity - left_of (s.accepted + 1) f.left.orders ≡ sum (traded_of (s.accepted + 1)) e.executions
      own =
          let account = trail_account legs o.strategy (λ os b y r q. fair_step legs o.strategy os b y r q) (trading (ranked_insert order_ahead (entered (s.accepted + 1) o) s.orders) e.before) f.executions f.left ready ran.trail (s.accepted + 1) (omega arith) in
          let whole : left_of (s.accepted + 1) (ranked_insert order_ahead (entered (s.accepted + 1) o) s.orders) ≡ o.quantity = left_inserted_same (entered (s.accepted + 1) o) s.orders k.ready some (omega arith) (absent h s k (s.accepted + 1) (omega arith)) in
          let records : sum (traded_of (s.accepted + 1)) e.executions ≡ sum (traded_of (s.accepted + 1)) f.executions = ap (sum (traded_of (s.accepted + 1))) does.executions in
          omega arith

law_more : (h : List Event) (s : State) (e : Event) (t : State) → Known h s → Effect s e t → MovedAll h → Law h e t
law_more h s e t k (quiet q none same next) all = law_quiet h s k e t (quiet q none same next) q none same all
law_more h s e t k (defining row up call lawful does) all =
    law_idle h s k e t (defining row up call lawful does) (defined (length s.strategies)) does.answer does.executions does.after all tt (k.table.long, refl)
law_more h s e t k (cancelling n o up call found does) all =
    law_idle h s k e t (cancelling n o up call found does) (cancelled o.quantity) does.answer does.executions does.after all tt refl
law_more h s e t k (evaluating n legs up call found does) all =
    law_evaluating h s k e t (evaluating n legs up call found does) n legs (steps legs n e.room (trading s.orders e.before)) up call found (stepping legs n e.room (trading s.orders e.before)) does.answer does.executions does.after does.next all
law_more h s e t k (placing o legs up call none found does) all =
    let start_with : Trading = trading (ranked_insert order_ahead (entered (s.accepted + 1) o) s.orders) e.before in
    law_placing h s k e t (placing o legs up call none found does) o legs (steps legs o.strategy e.room start_with) up call (some_placed s o none) found (stepping legs o.strategy e.room start_with) does all

-- a run, and what is known after it
pub run_known : {h : List Event} {s : State} → Run h s → Known h s × MovedAll h
run_known (start ready) = (known_start ready, λ s d. (0, refl, refl))
run_known (further {h} {s} {t} e r lawful happens) =
    let before = run_known r in
    let done = effect s t e happens in
    (known_more h s e t before.0 done, (law_more h s e t before.0 done before.1).moved_in_all)

last_law : {h : List Event} {u : State} → Run h u → (first : List Event) (e : Event) → h ≡ first ++ (e ∷ []) → Law first e u
last_law (start ready) first e p = absurd (omega (arith, ap length p, length_push first e))
last_law (further {h} {s} {t} d r lawful happens) first e p =
    let before = run_known r in
    let same = same_from_push h first d e p in
    let own : Law h d t = law_more h s d t before.0 (effect s t d happens) before.1 in
    subst (λ x. Law first x t) same.1 (subst (λ hs. Law hs d t) same.0 own)

pub theorem : Theorem
theorem s t e lawful happens h r = (further e r lawful happens, λ first later d u split run. last_law run first d refl)
