-- What is known of an engine after a list of calls: the invariant of runs.
use Rattle.std.proofs.Common.{◌≡◌, ℕ, ◌+◌, ◌<◌, ◌≤◌, false, List, [], ◌∷◌, ◌++◌, length, Some, sym, ap, ◌∙◌, subst, ⊎_elim, arith}
use Rattle.std.specs.List.{ContainsAt as Has}
use Rattle.strategies.specs.declared.leg.Leg.{Leg}
use Rattle.rules.specs.declared.order.NewOrder.{NewOrder}
use Rattle.rules.specs.declared.order.Order.{Order}
use Rattle.rules.specs.declared.answer.Placed.{Placed}
use Rattle.rules.specs.Orders.{left_of}
use Rattle.rules.specs.States.{State, strategy_at}
use Rattle.rules.specs.Events.{Event, Answer, defined, placed}
use Rattle.rules.specs.Calls.{is_buy, placed_limit}
use Rattle.rules.specs.Laws.{Accepted, Defined, sum, traded_of, executed, cancelled_by, cancelled_of, accepts, defines}
use Rattle.rules.proofs.Ready.{Ready}
use Rattle.rules.proofs.Accounts.{Same, Stems}
use Rattle.rules.proofs.History.{sum_push, accepted_later, accepted_cases, defined_later, defined_cases, executed_more, cancelled_more}

-- an order at rest is one that was accepted
pub record Backed (h : List Event) (x : Order) : Type 0 where
  pub order : NewOrder
  pub accepted : Accepted h x.number order
  pub strategy : x.strategy ≡ order.strategy
  pub side : x.buy ≡ is_buy order.side
  pub limit : x.limit ≡ placed_limit order

-- the table has the strategies that were defined
pub record Tabled (h : List Event) (s : State) : Type 0 where
  pub long : length s.strategies ≡ sum (λ e. defines e.answer) h
  pub found : (n : ℕ) (legs : List Leg) → Defined h n legs → strategy_at s.strategies n ≡ Some legs
  pub by : (n : ℕ) (legs : List Leg) → strategy_at s.strategies n ≡ Some legs → Defined h n legs

pub record Known (h : List Event) (s : State) : Type 0 where
  pub table : Tabled h s
  pub ready : Ready s.orders
  pub counted : s.accepted ≡ sum (λ e. accepts e.answer) h
  pub numbers : (n : ℕ) (o : NewOrder) → Accepted h n o → (1 ≤ n) × (n ≤ s.accepted)
  pub once : (n : ℕ) (o o' : NewOrder) → Accepted h n o → Accepted h n o' → o ≡ o'
  pub backed : (x : Order) → Has s.orders x → Backed h x
  pub conserved : (n : ℕ) (o : NewOrder) → Accepted h n o → o.quantity ≡ executed h n + cancelled_of h n + left_of n s.orders
  pub fresh : (n : ℕ) → s.accepted < n → (executed h n ≡ 0) × (cancelled_of h n ≡ 0)
  pub idle : s.ready ≡ false → (n : ℕ) (o : NewOrder) → Accepted h n o → ⊥

-- an answer that accepts nothing, and one that defines nothing
abbrev pub Unplaced : Answer → Type 0
Unplaced a = (p : Placed) → a ≡ placed p → ⊥

abbrev pub Undefined : Answer → Type 0
Undefined a = (n : ℕ) → a ≡ defined n → ⊥

-- an order that is backed stays so, with something less left
pub same_backed : (h : List Event) (x y : Order) → Same x y → Backed h x → Backed h y
same_backed h x y same b = record {
  order = b.order;
  accepted = subst (λ n. Accepted h n b.order) same.number b.accepted;
  strategy = sym same.strategy ∙ b.strategy;
  side = sym same.buy ∙ b.side;
  limit = sym same.limit ∙ b.limit;
}

-- and with one call more
pub backed_later : (h : List Event) (e : Event) (x y : Order) → Same x y → Backed h x → Backed (h ++ (e ∷ [])) y
backed_later h e x y same b =
    let own = same_backed h x y same b in
    record { order = own.order; accepted = accepted_later h e y.number own.order own.accepted; strategy = own.strategy; side = own.side; limit = own.limit }

module _ (h : List Event) (s : State) (e : Event) (t : State) (k : Known h s) where
  abbrev longer : List Event
  longer = h ++ (e ∷ [])

  -- the table stays
  pub same_table : t.strategies ≡ s.strategies → Undefined e.answer → defines e.answer ≡ 0 → Tabled longer t
  same_table same none zero = record {
    long = ap length same ∙ k.table.long ∙ sym (sum_push (λ e. defines e.answer) h e ∙ omega (arith, zero));
    found = λ n legs d. ap (λ rows. strategy_at rows n) same ∙ ⊎_elim (λ old. k.table.found n legs old) (λ new. absurd (none n new.answering)) (defined_cases h e n legs d);
    by = λ n legs f. defined_later h e n legs (k.table.by n legs (sym (ap (λ rows. strategy_at rows n) same) ∙ f));
  }

  -- a call that accepts no order
  pub unaccepting :
      Tabled longer t → t.ready ≡ s.ready → t.accepted ≡ s.accepted → Unplaced e.answer → accepts e.answer ≡ 0
      → Ready t.orders → Stems s.orders t.orders
      → ((n : ℕ) → 1 ≤ n → left_of n s.orders ≡ sum (traded_of n) e.executions + cancelled_by n e.call e.answer + left_of n t.orders)
      → ((n : ℕ) → s.accepted < n → left_of n s.orders ≡ 0)
      → Known longer t
  unaccepting table same-ready same_count none zero ready stems account absent = record {
    table = table;
    ready = ready;
    counted = same_count ∙ k.counted ∙ sym (sum_push (λ e. accepts e.answer) h e ∙ omega (arith, zero));
    numbers = λ n o a. let old = k.numbers n o (older n o a) in (old.0, omega (arith, same_count, old.1));
    once = λ n o o' a b. k.once n o o' (older n o a) (older n o' b);
    backed = λ x has. let from = stems x has in backed_later h e from.0 x from.2 (k.backed from.0 from.1);
    conserved = λ n o a.
        let old = older n o a in
        let kept = k.conserved n o old in
        let moved = account n (k.numbers n o old).0 in
        omega (arith, executed_more h e n, cancelled_more h e n);
    fresh = λ n later.
        let above : s.accepted < n = omega (arith, same_count) in
        let kept = k.fresh n above in
        let moved = account n (omega arith) in
        let nothing = absent n above in
        (omega (arith, executed_more h e n, kept.0), omega (arith, cancelled_more h e n, kept.1));
    idle = λ shut n o a. k.idle (sym same-ready ∙ shut) n o (older n o a);
  }
    where
      older : (n : ℕ) (o : NewOrder) → Accepted longer n o → Accepted h n o
      older n o a = ⊎_elim (λ old. old) (λ new. absurd (none new.told new.answering)) (accepted_cases h e n o a)
