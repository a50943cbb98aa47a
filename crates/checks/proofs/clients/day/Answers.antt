-- The law of the last call, over the list of the four calls: the order's quantity is executed, cancelled or resting.
use Rattle.std.proofs.Common.{◌≡◌, ℕ, ◌+◌, ◌≤◌, cond, eqb, List, [], ◌∷◌, refl, ap, ◌∙◌, arith, rules}
use Rattle.std.proofs.ByRecursion.{has_append_left, has_push}
use Rattle.std.proofs.lemmas.Bool.{cond-true, eq-eqb}
use Rattle.depth.specs.Meaning.{depth_lots, depth_lawful}
use Rattle.rules.specs.declared.order.NewOrder.{NewOrder}
use Rattle.rules.specs.declared.answer.Placed.{Placed}
use Rattle.rules.specs.States.{State}
use Rattle.rules.specs.Events.{Event, Call, place, cancel, Answer, placed, cancelled}
use Rattle.rules.specs.Runs.{Run}
use Rattle.rules.specs.Laws.{Law, Always, traded_of, sum, cancelled_by, resting}
use Rattle.checks.proofs.clients.day.Goals as goal

same : (n a : ℕ) → cond (eqb n n) a 0 ≡ a
same n a = cond-true {A = ℕ} (eqb n n) a 0 (eq-eqb n n refl)

module _ (e1 e2 e3 e4 : Event) (u : State) (o : NewOrder) (p : Placed) (back : ℕ) where
  abbrev n : ℕ
  n = p.number

  abbrev traded : Event → ℕ
  traded e = sum (traded_of n) e.executions

  abbrev gone : Event → ℕ
  gone e = cancelled_by n e.call e.answer

  together : Law (e1 ∷ e2 ∷ e3 ∷ []) e4 u → e2.call ≡ place o → e2.answer ≡ placed p → p.executed ≡ traded e2 → e4.call ≡ cancel n → e4.answer ≡ cancelled back → p.executed + p.cancelled + back ≤ o.quantity
  together law placing answering told cancelling answered =
      let all : o.quantity ≡ (traded e1 + (traded e2 + (traded e3 + (traded e4 + 0)))) + (gone e1 + (gone e2 + (gone e3 + (gone e4 + 0)))) + resting u n =
      law.conserved n o (record { by = e2; among = has_append_left (e1 ∷ e2 ∷ []) (e3 ∷ e4 ∷ []) e2 (has_push (e1 ∷ []) e2); placing = placing; told = p; answering = answering; number = refl }) in
      let at_once : gone e2 ≡ p.cancelled = ap (λ (a : Answer). cancelled_by n e2.call a) answering ∙ same n p.cancelled in
      let later : gone e4 ≡ back = ap (λ (a : Answer). cancelled_by n e4.call a) answered ∙ ap (λ (k : Call). cancelled_by n k (cancelled back)) cancelling ∙ same n back in
      omega (arith, all, at_once, later, told)

-- the law of a call, whatever calls led to it
obeyed : {s t : State} {e : Event} → Always s e t → (h : List Event) → Run h s → Law h e t
obeyed {s} {t} {e} always h run = let r = always h run in r.1 h [] e t refl r.0

-- what was executed, cancelled and given back
sum_within : (c : goal.After-struct_known-1) → c.in_ok-placed.placed.executed + c.in_ok-placed.placed.cancelled + c.in_ok-back.back ≤ c.args.order.quantity
sum_within c =
    let seen = depth_lots c.args.book.now in
    let lawful = depth_lawful c.args.book.now in
    let r1 = c.in_ok-define.ensures.runs seen 0 lawful [] c.open-engine.ensures.runs in
    let r2 = c.in_ok-placed.ensures.runs _ r1.0 in
    let r3 = c.evaluate.ensures.runs _ r2.0 in
    let placing = obeyed c.in_ok-placed.ensures.runs _ r1.0 in
    let last = obeyed (c.in_ok-back.ensures.runs seen 0 lawful) _ r3.0 in
    together _ _ _ _ _ c.args.order c.in_ok-placed.placed c.in_ok-back.back last refl refl placing.told.2 refl refl

pub overflow_add-result : goal.overflow_add-result
overflow_add-result c = let h = sum_within c in search rules

pub overflow_add-result-2 : goal.overflow_add-result-2
overflow_add-result-2 c = let h = sum_within c in search rules

pub returns : goal.returns
returns c = sum_within c
