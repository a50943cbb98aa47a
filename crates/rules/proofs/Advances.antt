-- What a step and a trail of steps leave of the orders: as much less as was traded.
use Rattle.std.proofs.Common.{◌≡◌, ℕ, ◌+◌, ◌≤◌, min, Bool, true, false, cond, eqb, List, [], ◌∷◌, Some, sym, ap, ◌∙◌, subst, arith}
use Rattle.std.proofs.lemmas.Int.{clamps}
use Rattle.std.proofs.lemmas.Bool.{cond-false, ne_eqb, true≢false}
use Rattle.simple.specs.Lots.{Lots}
use Rattle.strategies.specs.declared.leg.Leg.{Leg}
use Rattle.rules.specs.declared.order.Order.{Order}
use Rattle.rules.specs.declared.execution.Execution.{Execution}
use Rattle.rules.specs.Orders.{reduced, left_of}
use Rattle.rules.specs.Steps.{Step, pair, legged, Trading, trading, step_of, execution_of, orders_after, after_step}
use Rattle.rules.specs.Laws.{traded_of, sum}
use Rattle.rules.proofs.Ready.{Ready, Mine, StepFair}
use Rattle.rules.proofs.Trails.{Trail}
use Rattle.rules.proofs.Accounts.{Stems, stems_refl, stems_trans, left_has, one_number}
use Rattle.rules.proofs.Reductions.{ready_reduced, stems_reduced, left_reduced, left_reduced_other}

-- orders on different sides have different numbers
apart : (s : ℕ) (os : List Order) (x y : Order) → Ready os → Mine s true os x → Mine s false os y → x.number ≡ y.number → ⊥
apart s os x y ready mx my e =
    let same : x ≡ y = one_number os x y ready mx.rests my.rests e in
    true≢false (sym mx.side ∙ ap (λ (o : Order). o.buy) same ∙ my.side)

-- the quantity that a legged order trades, on whichever side it is
legged_traded : (buy : Bool) (m q n : ℕ) → 1 ≤ n → cond (eqb (cond buy m 0) n) q 0 + cond (eqb (cond buy 0 m) n) q 0 ≡ cond (eqb m n) q 0
legged_traded true m q n some = let z : cond (eqb 0 n) q 0 ≡ 0 = cond-false (eqb 0 n) q 0 (ne_eqb 0 n (λ e. omega arith)) in omega arith
legged_traded false m q n some = let z : cond (eqb 0 n) q 0 ≡ 0 = cond-false (eqb 0 n) q 0 (ne_eqb 0 n (λ e. omega arith)) in omega arith

pub step_account : (legs : List Leg) (s : ℕ) (os : List Order) (b : Lots) (y : Step) → Ready os → StepFair legs s os b y
    → (n : ℕ) → 1 ≤ n → left_of n os ≡ traded_of n (execution_of s y) + left_of n (orders_after y os)
step_account legs s os b (pair x y t) ready fair n some =
    let q = min x.quantity y.quantity in
    let later = reduced x.number q os in
    let ne : x.number ≡ y.number → ⊥ = apart s os x y ready fair.0 fair.1 in
    let of_x : left_of x.number os ≡ x.quantity = left_has os x ready fair.0.rests in
    let of_y : left_of y.number later ≡ y.quantity = left_reduced_other x.number q y.number os ne ∙ left_has os y ready fair.1.rests in
    let first : left_of n os ≡ cond (eqb x.number n) q 0 + left_of n later = left_reduced x.number q n os ready (omega (arith, clamps)) in
    let second : left_of n later ≡ cond (eqb y.number n) q 0 + left_of n (reduced y.number q later) =
    left_reduced y.number q n later (ready_reduced x.number q os ready) (omega (arith, clamps)) in
    omega arith
step_account legs s os b (legged o q t) ready fair n some =
    let of_o : left_of o.number os ≡ o.quantity = left_has os o ready fair.0.rests in
    let first : left_of n os ≡ cond (eqb o.number n) q 0 + left_of n (reduced o.number q os) = left_reduced o.number q n os ready (omega (arith, fair.3)) in
    first ∙ ap (λ k. k + left_of n (reduced o.number q os)) (sym (legged_traded o.buy o.number q n some))

pub step_ready : (os : List Order) (y : Step) → Ready os → Ready (orders_after y os)
step_ready os (pair x y t) ready =
    let q = min x.quantity y.quantity in
    ready_reduced y.number q (reduced x.number q os) (ready_reduced x.number q os ready)
step_ready os (legged o q t) ready = ready_reduced o.number q os ready

pub step_stems : (os : List Order) (y : Step) → Stems os (orders_after y os)
step_stems os (pair x y t) =
    let q = min x.quantity y.quantity in
    let later = reduced x.number q os in
    stems_trans os later (reduced y.number q later) (stems_reduced x.number q os) (stems_reduced y.number q later)
step_stems os (legged o q t) = stems_reduced o.number q os

pub trail_ready : (legs : List Leg) (s : ℕ) (t : Trading) (xs : List Execution) (u : Trading) → Ready t.orders → Trail legs s t xs u → Ready u.orders
unfolding after_step
trail_ready legs s t [] u ready same = subst (λ (v : Trading). Ready v.orders) (sym same) ready
trail_ready legs s t (x ∷ xs) u ready trail =
    let y = trail.0 in
    trail_ready legs s (after_step legs y t) xs u (step_ready t.orders y ready) trail.3

pub trail_stems : (legs : List Leg) (s : ℕ) (t : Trading) (xs : List Execution) (u : Trading) → Trail legs s t xs u → Stems t.orders u.orders
unfolding after_step
trail_stems legs s t [] u same = subst (λ (v : Trading). Stems t.orders v.orders) (sym same) (stems_refl t.orders)
trail_stems legs s t (x ∷ xs) u trail =
    let y = trail.0 in
    stems_trans t.orders (orders_after y t.orders) u.orders
    (step_stems t.orders y)
    (trail_stems legs s (after_step legs y t) xs u trail.3)

-- each step of ready orders is fair
module _ (legs : List Leg) (s : ℕ)
    (fair : (os : List Order) (b : Lots) (y : Step) → Ready os → step_of legs s (trading os b) ≡ Some y → StepFair legs s os b y) where
  pub trail_account : (t : Trading) (xs : List Execution) (u : Trading) → Ready t.orders → Trail legs s t xs u
      → (n : ℕ) → 1 ≤ n → left_of n t.orders ≡ sum (traded_of n) xs + left_of n u.orders
  unfolding after_step
  trail_account t [] u ready same n some =
      let e : left_of n u.orders ≡ left_of n t.orders = ap (λ (v : Trading). left_of n v.orders) same in
      omega arith
  trail_account t (x ∷ xs) u ready trail n some =
      let y = trail.0 in
      let first : left_of n t.orders ≡ traded_of n (execution_of s y) + left_of n (orders_after y t.orders) =
      step_account legs s t.orders t.lots y ready (fair t.orders t.lots y ready trail.1) n some in
      let same : traded_of n x ≡ traded_of n (execution_of s y) = ap (traded_of n) trail.2 in
      let rest : left_of n (orders_after y t.orders) ≡ sum (traded_of n) xs + left_of n u.orders =
      trail_account (after_step legs y t) xs u (step_ready t.orders y ready) trail.3 n some in
      omega arith
