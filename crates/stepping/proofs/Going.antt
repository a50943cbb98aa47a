-- One step after another.
use Rattle.std.proofs.Common.{◌≡◌, ℕ, suc, ◌+◌, ◌-◌, ◌<◌, ◌≤◌, Bool, true, false, List, [], ◌∷◌, ◌++◌, length, take, drop, set, Some, None, sym, refl, ap, ◌∙◌, subst, arith}
use Rattle.std.proofs.lemmas.List.{append-nil, append_assoc, take_more_set, length-set, length-take-le, drop-set-lt, drop-drop, take-append-drop}
use Rattle.simple.specs.Lots.{Lots}
use Rattle.strategies.specs.declared.leg.Leg.{Leg}
use Rattle.rules.specs.declared.order.Order.{Order}
use Rattle.rules.specs.declared.execution.Execution.{Execution}
use Rattle.rules.specs.Steps.{Step, Trading, trading, step_of, execution_of, orders_after, lots_after, after_step, Stepped, no_more, preceded, onward, steps}
use Rattle.rules.specs.Events.{written_over}
use Rattle.stepping.specs.Stepping.{Ran}

-- what a step leaves, by what it left of the orders and of the lots
pub after_so : (legs : List Leg) (x : Step) (os os' : List Order) (b b₁ b' : Lots) → os' ≡ orders_after x os → b₁ ≡ b → b' ≡ lots_after legs x b₁ → trading os' b' ≡ after_step legs x (trading os b)
unfolding after_step
after_so legs x os os' b b₁ b' o same l = ap (λ os. trading os b') o ∙ ap (trading (orders_after x os)) (l ∙ ap (lots_after legs x) same)

-- the records before, then those that follow
abbrev pub behind : List Execution → Stepped → Stepped
behind xs f = record { executions = xs ++ f.executions; left = f.left; settled = f.settled }

module _ (legs : List Leg) (s : ℕ) where
  -- a run that has written w records, and stands at t
  pub record Going (f : Stepped) (before out : List Execution) (w : ℕ) (t : Trading) : Type 0 where
    pub whole : f ≡ behind (take w out) (steps legs s (length before - w) t)
    pub others : drop w out ≡ drop w before
    pub long : length out ≡ length before
    pub few : w ≤ length before

  twice : (xs : List Execution) (x : Execution) (f : Stepped) → behind xs (preceded x f) ≡ behind (xs ++ (x ∷ [])) f
  twice xs x f = λ i. record { executions = sym (append_assoc xs (x ∷ []) f.executions) i; left = f.left; settled = f.settled }

  one_step : (n m : ℕ) (t : Trading) (x : Step) → n ≡ suc m → step_of legs s t ≡ Some x → steps legs s n t ≡ preceded (execution_of s x) (steps legs s m (after_step legs x t))
  unfolding steps
  one_step n m t x is at = ap (λ k. steps legs s k t) is ∙ ap (λ o. onward s o t (λ x. steps legs s m (after_step legs x t))) at

  no_step : (n m : ℕ) (t : Trading) → n ≡ suc m → step_of legs s t ≡ None → steps legs s n t ≡ no_more t true
  unfolding steps
  no_step n m t is at = ap (λ k. steps legs s k t) is ∙ ap (λ o. onward s o t (λ x. steps legs s m (after_step legs x t))) at

  no_room : (n : ℕ) (t : Trading) → n ≡ 0 → steps legs s n t ≡ no_more t false
  unfolding steps
  no_room n t is = ap (λ k. steps legs s k t) is

  module _ (f : Stepped) (before out : List Execution) (w : ℕ) (t : Trading) (going : Going f before out w t) where
    pub going_more : (x : Step) (e : Execution) (u : Trading) → Some x ≡ step_of legs s t → e ≡ execution_of s x → w < length before → u ≡ after_step legs x t → Going f before (set out w e) (w + 1) u
    going_more x e u at says lt is =
        let long = going.long in
        let few = going.few in
        let rest = length before - (w + 1) in
        record {
          whole =
              going.whole
              ∙ ap (behind (take w out)) (one_step (length before - w) rest t x (omega arith) (sym at))
              ∙ twice (take w out) (execution_of s x) (steps legs s rest (after_step legs x t))
              ∙ ap (λ e. behind (take w out ++ (e ∷ [])) (steps legs s rest (after_step legs x t))) (sym says)
              ∙ ap (λ xs. behind xs (steps legs s rest (after_step legs x t))) (sym (take_more_set out w e (omega (arith, lt, long))))
              ∙ ap (λ u. behind (take (w + 1) (set out w e)) (steps legs s rest u)) (sym is);
          others = drop-set-lt (w + 1) out w e (omega arith) ∙ sym (drop-drop 1 w out) ∙ ap (drop 1) going.others ∙ drop-drop 1 w before;
          long = length-set out w e ∙ going.long;
          few = omega arith;
        }

    ended : (settled : Bool) (b : Lots) → b ≡ t.lots → steps legs s (length before - w) t ≡ no_more t settled → Ran f before out t.orders b w settled
    ended settled b there end =
        let long = going.long in
        let few = going.few in
        let is : f ≡ behind (take w out) (no_more t settled) = going.whole ∙ ap (behind (take w out)) end in
        let xs : f.executions ≡ take w out = ap (λ f. f.executions) is ∙ append-nil (take w out) in
        let n : length (take w out) ≡ w = length-take-le w out (omega arith) in
        record {
          list = sym (take-append-drop w out) ∙ ap (λ ys. take w out ++ ys) going.others ∙ ap (λ k. take w out ++ drop k before) (sym n) ∙ sym (ap (λ xs. written_over xs before) xs);
          orders = sym (ap (λ f. f.left.orders) is);
          lots = there ∙ sym (ap (λ f. f.left.lots) is);
          records = sym (ap length xs ∙ n);
          settled = sym (ap (λ f. f.settled) is);
        }

    -- the list is full
    pub going_full : length before ≤ w → Ran f before out t.orders t.lots (length out) false
    going_full is =
        let long = going.long in
        let few = going.few in
        let all : w ≡ length out = omega arith in
        subst (λ n. Ran f before out t.orders t.lots n false) all (ended false t.lots refl (no_room (length before - w) t (omega arith)))

    -- no step is possible, and the list stays
    pub going_all : (b : Lots) (kept : List Execution) → b ≡ t.lots → kept ≡ out → None ≡ step_of legs s t → w < length before → Ran f before kept t.orders b w true
    going_all b kept there same at lt =
        subst (λ xs. Ran f before xs t.orders b w true) (sym same)
        (ended true b there (no_step (length before - w) (length before - (w + 1)) t (omega arith) (sym at)))
