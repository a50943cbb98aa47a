-- A strategy has come to rest exactly when nothing is left to do for the orders of its history.
use Rattle.std.proofs.Common.{◌≡◌, ℕ, ◌≤◌, Bool, true, false, not, ◌||◌, List, [], is_some, Some, None, Option, sym, refl, ap, ◌∙◌, subst, arith}
use Rattle.std.proofs.ByRecursion.{all-has}
use Rattle.std.proofs.lemmas.Bool.{true≢false}
use Rattle.refusals.specs.declared.reason.Reason.TheVariants.{Memory}
use Rattle.refusals.specs.declared.station.Station.TheVariants.{Opening}
use Rattle.refusals.specs.Refusals.{refused_at}
use Rattle.simple.specs.Lots.{Lots}
use Rattle.strategies.specs.declared.leg.Leg.{Leg}
use Rattle.strategies.specs.Lawful.{Exactly}
use Rattle.pricing.specs.Legging.{legged_quantity}
use Rattle.rules.specs.declared.order.NewOrder.{NewOrder}
use Rattle.rules.specs.declared.order.Order.{Order}
use Rattle.rules.specs.declared.answer.Outcome.TheVariants.{AtRest}
use Rattle.rules.specs.Orders.{limit_of, order_with, quantity_in, left_of}
use Rattle.rules.specs.Steps.{Step, trading, step_of, Stepped, rests}
use Rattle.rules.specs.States.{State, strategy_at}
use Rattle.rules.specs.Events.{Event}
use Rattle.rules.specs.Calls.{is_buy, unless, test, cancel_found, outcome, outcome_of}
use Rattle.rules.specs.Laws.{Accepted, Defined, counted_limit, given_back, resting, NoPair, NoLeg, Settled}
use Rattle.rules.specs.Laws as laws
use Rattle.rules.proofs.Ready.{Ready, Mine, Pairless, Legless, Still}
use Rattle.rules.proofs.Accounts.{Stems, has_left, left_has}
use Rattle.rules.proofs.Settling.{no_step, still_no_step, legged_some}
use Rattle.rules.proofs.Knowing.{Backed, Known}
use Rattle.rules.proofs.Tracing.{limit_backed}

-- what cancel would answer is what is left
pub resting_left : (t : State) (n : ℕ) → t.ready ≡ true → resting t n ≡ left_of n t.orders
resting_left t n up = ap (λ ready. given_back (unless (test (not ready) (refused_at Opening Memory) None) t (λ _ _. []) (cancel_found t (λ _ _. []) n (order_with n t.orders))).answer) up ∙ go (order_with n t.orders)
  where
    go : (o : Option Order) → given_back (cancel_found t (λ _ _. []) n o).answer ≡ quantity_in o
    go None = refl
    go (Some o) = refl

some_same : {X : Type 0} (a b : X) → Some a ≡ Some b → a ≡ b
some_same a b e = cc

module _ (h : List Event) (t : State) (k : Known h t) (up : t.ready ≡ true) (s : ℕ) (legs : List Leg) (found : strategy_at t.strategies s ≡ Some legs) (b : Lots) where
  -- a resting order of the history stands in the list
  pub record Found (n : ℕ) (o : NewOrder) : Type 0 where
    pub order : Order
    pub mine : Mine s (is_buy o.side) t.orders order
    pub limit : limit_of order ≡ counted_limit o
    pub left : order.quantity ≡ resting t n

  find : (n : ℕ) (o : NewOrder) → laws.Resting h t s n o → Found n o
  find n o r =
      let left : resting t n ≡ left_of n t.orders = resting_left t n up in
      let x = has_left n t.orders (subst (λ q. 1 ≤ q) left r.some) in
      let back : Backed h x.0 = k.backed x.0 x.1 in
      let same : back.order ≡ o = k.once n back.order o (subst (λ m. Accepted h m back.order) x.2 back.accepted) r.accepted in
      record {
        order = x.0;
        mine = record { rests = x.1; strategy = back.strategy ∙ ap (λ (y : NewOrder). y.strategy) same ∙ r.strategy; side = back.side ∙ ap (λ (y : NewOrder). is_buy y.side) same };
        limit = limit_backed h x.0 back ∙ ap counted_limit same;
        left = x.3 ∙ sym left;
      }

  still_settled : Still legs s t.orders b → Settled h t s b
  still_settled still legs' d =
      let same : legs ≡ legs' = some_same legs legs' (sym found ∙ k.table.found s legs' d) in
      subst (λ ls. NoPair h t s ls b × NoLeg h t s ls b) same (pairless, legless)
    where
      pairless : NoPair h t s legs b
      pairless n m o c buy sell bought sold p within allowed =
          let x = find n o buy in
          let y = find m c sell in
          (still allowed.0 allowed.1).0 x.order y.order
          (subst (λ d. Mine s d t.orders x.order) bought x.mine)
          (subst (λ d. Mine s d t.orders y.order) sold y.mine)
          p (rw (x.limit, y.limit) within) allowed.2

      legless : NoLeg h t s legs b
      legless n o rest ms market some =
          let x = find n o rest in
          (still ms market).1 (is_buy o.side) x.order x.mine (rw (x.limit, x.left) some)

  -- an order of the list rests in the history
  rest_of : (buy : Bool) (x : Order) → Mine s buy t.orders x → (back : Backed h x) → laws.Resting h t s x.number back.order
  rest_of buy x mine back = record {
    accepted = back.accepted;
    strategy = sym back.strategy ∙ mine.strategy;
    some = rw (resting_left t x.number up, left_has t.orders x k.ready mine.rests) (all-has (λ o. 1 ≤ o.quantity) t.orders x k.ready.some mine.rests);
  }

  settled_still : Settled h t s b → Still legs s t.orders b
  settled_still settled ms market = (pairless, legless)
    where
      none : NoPair h t s legs b × NoLeg h t s legs b
      none = settled legs (k.table.by s legs found)

      pairless : Pairless ms s t.orders
      pairless x y buy sell p within allowed =
          let bx = k.backed x buy.rests in
          let by = k.backed y sell.rests in
          none.0 x.number y.number bx.order by.order (rest_of true x buy bx) (rest_of false y sell by)
          (sym bx.side ∙ buy.side) (sym by.side ∙ sell.side) p
          (rw (← (limit_backed h x bx), ← (limit_backed h y by)) within) (ms, market, allowed)

      legless : Legless ms s t.orders
      legless buy x mine some =
          let back = k.backed x mine.rests in
          let left : resting t x.number ≡ x.quantity = resting_left t x.number up ∙ left_has t.orders x k.ready mine.rests in
          none.1 x.number back.order (rest_of buy x mine back) ms market
          (subst (λ n. 1 ≤ n)
          (ap (λ d. legged_quantity ms d (limit_of x) x.quantity) (sym mine.side ∙ back.side)
          ∙ ap (λ z. legged_quantity ms (is_buy back.order.side) z x.quantity) (limit_backed h x back)
          ∙ ap (λ q. legged_quantity ms (is_buy back.order.side) (counted_limit back.order) q) (sym left))
          some)

  -- nothing is left to do exactly when no step is possible
  no_step_settled : step_of legs s (trading t.orders b) ≡ None → Settled h t s b
  no_step_settled e = still_settled (no_step legs s t.orders b k.ready e)

  settled_no_step : Settled h t s b → step_of legs s (trading t.orders b) ≡ None
  settled_no_step settled = still_no_step legs s t.orders b k.ready (settled_still settled)

-- fewer orders have no more to do
pub still_fewer : (legs : List Leg) (s : ℕ) (os fewer : List Order) (b : Lots) → Ready os → Stems os fewer → Still legs s os b → Still legs s fewer b
still_fewer legs s os fewer b ready stems still ms market = (pairless, legless)
  where
    from : (buy : Bool) (x : Order) → Mine s buy fewer x → (y : Order) × Mine s buy os y × (limit_of y ≡ limit_of x)
    from buy x mine =
        let y = stems x mine.rests in
        let same = y.2 in
        (y.0, record { rests = y.1; strategy = same.strategy ∙ mine.strategy; side = same.buy ∙ mine.side }, rw (same.buy, same.limit))

    pairless : Pairless ms s fewer
    pairless x y buy sell p within allowed =
        let u = from true x buy in
        let v = from false y sell in
        (still ms market).0 u.0 v.0 u.1 v.1 p (rw (u.2, v.2) within) allowed

    legless : Legless ms s fewer
    legless buy x mine some =
        let u = from buy x mine in
        (still ms market).1 buy u.0 u.1
        (legged_some ms buy (limit_of u.0) x.quantity u.0.quantity (rw u.2 some) (all-has (λ o. 1 ≤ o.quantity) os u.0 ready.some u.1.rests))

-- "at rest" is said when steps had ended, or no step is possible now
at_rest : (settled no_step : Bool) → outcome (settled || no_step) ≡ AtRest → (settled || no_step) ≡ true
at_rest true n e = refl
at_rest false true e = refl
at_rest false false e = let z : ◌≡◌ {A = ℕ} 0 1 = cc in absurd (omega arith)

none_there : (o : Option Step) → not (is_some o) ≡ true → o ≡ None
none_there None e = refl
none_there (Some x) e = absurd (true≢false (sym e))

module _ (h : List Event) (t : State) (k : Known h t) (up : t.ready ≡ true) (s : ℕ) (legs : List Leg) (found : strategy_at t.strategies s ≡ Some legs) (f : Stepped) where
  pub rested : (f.settled ≡ true → Still legs s t.orders f.left.lots) → Exactly (outcome_of legs s f t.orders ≡ AtRest) (Settled h t s f.left.lots)
  rested ended = (λ e. go f.settled refl (at_rest f.settled (rests legs s (trading t.orders f.left.lots)) e), λ settled. ap outcome (quiet settled))
    where
      go : (b : Bool) → f.settled ≡ b → (b || rests legs s (trading t.orders f.left.lots)) ≡ true → Settled h t s f.left.lots
      go true e _ = still_settled h t k up s legs found f.left.lots (ended e)
      go false e r = no_step_settled h t k up s legs found f.left.lots (none_there (step_of legs s (trading t.orders f.left.lots)) r)

      or_right : (b : Bool) → (b || true) ≡ true
      or_right true = refl
      or_right false = refl

      quiet : Settled h t s f.left.lots → (f.settled || rests legs s (trading t.orders f.left.lots)) ≡ true
      quiet settled = rw (settled_no_step h t k up s legs found f.left.lots settled) (or_right f.settled)
