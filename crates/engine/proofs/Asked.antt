-- What the questions answer.
use Rattle.std.proofs.Common.{◌≡◌, ℕ, Bool, true, false, cond, not, List, ℤ, is_some, Some, None, Ok, Err, Option, Result, sym, refl, ap, ◌∙◌, arith}
use Rattle.refusals.specs.declared.reason.Reason.TheVariants.{Memory, Strategy, NotResting}
use Rattle.refusals.specs.declared.station.Station.TheVariants.{Opening, Net, Display}
use Rattle.refusals.specs.declared.refusal.Refusal.{Refusal}
use Rattle.refusals.specs.Refusals.{refused_at}
use Rattle.simple.specs.Lots.{Lots}
use Rattle.strategies.specs.declared.leg.Leg.{Leg}
use Rattle.pricing.specs.declared.market.LegMarket.{LegMarket}
use Rattle.pricing.specs.Reading.{net_market}
use Rattle.pricing.specs.Display.{displayed}
use Rattle.rules.specs.declared.order.Order.{Order}
use Rattle.rules.specs.Orders.{limit_of, order_with}
use Rattle.rules.specs.States.{State, strategy_at}
use Rattle.rules.specs.Calls.{test}
use Rattle.engine.proofs.Dids.{memory_test, look_up_test}
use Rattle.rules.specs.Questions.{net_on, net_answer, markets_in, display_of, display_answer}

-- a question goes on with what its look-up found; where there is none it is refused
module _ {X Y : Type 0} (on : Option X → Result Y Refusal) (no : Refusal) (none : on None ≡ Err no) where
  denied : (ready : Bool) (found : Option X) (why : Refusal) → Some why ≡ test (not ready) (refused_at Opening Memory) (test (not (is_some found)) no None) → Err why ≡ cond ready (on found) (Err (refused_at Opening Memory))
  denied false found why e = let same : why ≡ refused_at Opening Memory = cc in ap Err same
  denied true None why e = let same : why ≡ no = cc in ap Err same ∙ sym none
  denied true (Some x) why e = let z : ◌≡◌ {A = ℕ} 0 1 = cc in absurd (omega arith)

up : {X : Type 0} (ready : Bool) (on : Result X Refusal) → None ≡ test (not ready) (refused_at Opening Memory) None → on ≡ cond ready on (Err (refused_at Opening Memory))
up true on e = refl
up false on e = let z : ◌≡◌ {A = ℕ} 0 1 = cc in absurd (omega arith)

module _ (s : State) (b : Lots) (n : ℕ) where
  abbrev net : Result (Option (ℤ × ℤ)) Refusal
  net = net_on b (strategy_at s.strategies n)

  abbrev shown : Result (Option ℤ) Refusal
  shown = display_of s b (order_with n s.orders)

  module _ (why : Refusal) where
    pub net_refused : Some why ≡ look_up_test s (strategy_at s.strategies n) (refused_at Net Strategy) → Err why ≡ net_answer s b n
    unfolding net_answer
    net_refused e = denied (net_on b) (refused_at Net Strategy) refl s.ready (strategy_at s.strategies n) why e

    pub display_refused : Some why ≡ look_up_test s (order_with n s.orders) (refused_at Display NotResting) → Err why ≡ display_answer s b n
    unfolding display_answer
    display_refused e = denied (display_of s b) (refused_at Display NotResting) refl s.ready (order_with n s.orders) why e

  pub net_so : (legs : List Leg) (r : Option (ℤ × ℤ)) → None ≡ memory_test s → Some legs ≡ strategy_at s.strategies n → r ≡ net_market b legs → Ok r ≡ net_answer s b n
  unfolding net_answer
  net_so legs r e some is = ap Ok is ∙ ap (net_on b) some ∙ up s.ready net e

  pub display_so : (o : Order) (ms : Option (List LegMarket)) (limit : ℤ) (r : Option ℤ) → None ≡ memory_test s → Some o ≡ order_with n s.orders → ms ≡ markets_in b (strategy_at s.strategies o.strategy) → limit ≡ limit_of o → r ≡ displayed ms o.buy o.limit limit → Ok r ≡ display_answer s b n
  unfolding display_answer
  display_so o ms limit r e some market at is =
      ap Ok (is ∙ ap (λ ms. displayed ms o.buy o.limit limit) market ∙ ap (displayed (markets_in b (strategy_at s.strategies o.strategy)) o.buy o.limit) at)
      ∙ ap (display_of s b) some
      ∙ up s.ready shown e
