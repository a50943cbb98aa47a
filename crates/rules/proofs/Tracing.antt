-- The executions of a call obey the law, and take what they say.
use Rattle.std.proofs.Common.{◌≡◌, ℕ, ◌+◌, ◌≤◌, Bool, true, false, cond, List, [], ◌∷◌, ◌≤ℤ◌, Some, None, MatchBool, sym, refl, ap, ◌∙◌, subst, arith}
use Rattle.std.specs.List.{ContainsAt as Has}
use Rattle.std.specs.Option.{unwrap_or}
use Rattle.std.proofs.ByRecursion.{all-has}
use Rattle.simple.specs.declared.lot.Side.{Side}
use Rattle.simple.specs.Lots.{Lots, contracts}
use Rattle.strategies.specs.declared.leg.Leg.{Leg}
use Rattle.pricing.specs.declared.market.NetPrice.{NetPrice}
use Rattle.rules.specs.declared.order.NewOrder.{NewOrder}
use Rattle.rules.specs.declared.order.Order.{Order}
use Rattle.rules.specs.declared.execution.Execution.{Execution}
use Rattle.rules.specs.Orders.{market_limit, limit_of}
use Rattle.rules.specs.Steps.{Step, pair, legged, Trading, execution_of, lots_after, legs_taken, after_step}
use Rattle.rules.specs.Events.{Event}
use Rattle.rules.specs.Calls.{is_buy, placed_limit}
use Rattle.rules.specs.Laws.{Accepted, Defined, counted_limit, sum, takes, lots_past, Bought, Sold, Legged, LawfulExecution, Executing, leg_contracts, contracts_taken, TakenIn}
use Rattle.rules.proofs.Ready.{Ready, Steady, Mine, StepFair}
use Rattle.rules.proofs.Trails.{Trail}
use Rattle.rules.proofs.Advances.{step_ready, step_stems}
use Rattle.rules.proofs.Fairness.{fair_step}
use Rattle.rules.proofs.Granting.{granted, moved_by_takes, lots_past_pair, lots_past_buy, lots_past_sell, contracts_taken_pair, contracts_taken_buy, contracts_taken_sell}
use Rattle.rules.proofs.Knowing.{Backed, same_backed}

-- an order's limit is that of the order that was accepted
pub limit_backed : (h : List Event) (x : Order) (b : Backed h x) → limit_of x ≡ counted_limit b.order
limit_backed h x b = rw (b.side, b.limit) (counted (is_buy b.order.side) b.order)
  where
    counted : (buy : Bool) (o : NewOrder) → unwrap_or (placed_limit o) (market_limit buy) ≡ cond o.market (market_limit buy) o.limit
    counted buy o = elim o.market as (λ m. unwrap_or (cond m None (Some o.limit)) (market_limit buy) ≡ cond m (market_limit buy) o.limit) [ true ↦ refl | false ↦ refl ]

module _ (h : List Event) (legs : List Leg) (s : ℕ) (known : Defined h s legs) (fit : Steady legs) where
  abbrev AllBacked : List Order → Type 0
  AllBacked os = (x : Order) → Has os x → Backed h x

  numbered : (os : List Order) (x : Order) → Ready os → Has os x → 1 ≤ x.number
  numbered os x ready has = all-has (λ o. 1 ≤ o.number) os x ready.numbered has

  module _ (os : List Order) (b : Lots) (ready : Ready os) (backed : AllBacked os) where
    bought_by : (o : Order) (x : Execution) → Mine s true os o → x.strategy ≡ s → x.buy ≡ o.number → x.price ≤ℤ limit_of o → Bought h x
    bought_by o x mine strategy number within =
        let back = backed o mine.rests in
        record {
          order = back.order;
          accepted = subst (λ n. Accepted h n back.order) (sym number) back.accepted;
          side = sym back.side ∙ mine.side;
          strategy = sym back.strategy ∙ mine.strategy ∙ sym strategy;
          within = subst (λ z. x.price ≤ℤ z) (limit_backed h o back) within;
        }

    sold_by : (o : Order) (x : Execution) → Mine s false os o → x.strategy ≡ s → x.sell ≡ o.number → limit_of o ≤ℤ x.price → Sold h x
    sold_by o x mine strategy number within =
        let back = backed o mine.rests in
        record {
          order = back.order;
          accepted = subst (λ n. Accepted h n back.order) (sym number) back.accepted;
          side = sym back.side ∙ mine.side;
          strategy = sym back.strategy ∙ mine.strategy ∙ sym strategy;
          within = subst (λ z. z ≤ℤ x.price) (limit_backed h o back) within;
        }

    lawful_pair : (x y : Order) (t : NetPrice) → StepFair legs s os b (pair x y t) → LawfulExecution h legs b (execution_of s (pair x y t))
    lawful_pair x y t fair =
        let buyer = numbered os x ready fair.0.rests in
        let seller = numbered os y ready fair.1.rests in
        record {
          some = fair.4;
          named = λ none _. omega (arith, none);
          bought = λ _. bought_by x (execution_of s (pair x y t)) fair.0 refl refl fair.2;
          sold = λ _. sold_by y (execution_of s (pair x y t)) fair.1 refl refl fair.3;
          paired = λ _ _. fair.5;
          legged_buy = λ none. absurd (omega (arith, none));
          legged_sell = λ none. absurd (omega (arith, none));
        }

    lawful_legged : (buy : Bool) (o : Order) (q : ℕ) (t : NetPrice) → o.buy ≡ buy → StepFair legs s os b (legged o q t) → LawfulExecution h legs b (execution_of s (legged o q t))
    lawful_legged true o q t side fair =
        let number = numbered os o ready fair.0.rests in
        let buying : (execution_of s (legged o q t)).buy ≡ o.number = rw side in
        let selling : (execution_of s (legged o q t)).sell ≡ 0 = rw side in
        let mine : Mine s true os o = subst (λ d. Mine s d os o) side fair.0 in
        let within : t.price ≤ℤ limit_of o = subst (λ d. MatchBool d (t.price ≤ℤ limit_of o) (limit_of o ≤ℤ t.price)) side fair.1 in
        record {
          some = fair.2;
          named = λ none _. omega (arith, none, buying);
          bought = λ _. bought_by o (execution_of s (legged o q t)) mine refl buying within;
          sold = λ some. absurd (omega (arith, some, selling));
          paired = λ _ some. absurd (omega (arith, some, selling));
          legged_buy = λ _. subst (λ d. Legged legs b d (execution_of s (legged o q t))) side fair.4;
          legged_sell = λ none. absurd (omega (arith, none, buying));
        }
    lawful_legged false o q t side fair =
        let number = numbered os o ready fair.0.rests in
        let buying : (execution_of s (legged o q t)).buy ≡ 0 = rw side in
        let selling : (execution_of s (legged o q t)).sell ≡ o.number = rw side in
        let mine : Mine s false os o = subst (λ d. Mine s d os o) side fair.0 in
        let within : limit_of o ≤ℤ t.price = subst (λ d. MatchBool d (t.price ≤ℤ limit_of o) (limit_of o ≤ℤ t.price)) side fair.1 in
        record {
          some = fair.2;
          named = λ _ none. omega (arith, none, selling);
          bought = λ some. absurd (omega (arith, some, buying));
          sold = λ _. sold_by o (execution_of s (legged o q t)) mine refl selling within;
          paired = λ some _. absurd (omega (arith, some, buying));
          legged_buy = λ none. absurd (omega (arith, none, selling));
          legged_sell = λ _. subst (λ d. Legged legs b d (execution_of s (legged o q t))) side fair.4;
        }

    lawful_step : (y : Step) → StepFair legs s os b y → LawfulExecution h legs b (execution_of s y)
    lawful_step (pair x y t) fair = lawful_pair x y t fair
    lawful_step (legged o q t) fair = lawful_legged o.buy o q t refl fair

    -- what the step leaves of the lots is what its record takes
    past_step : (y : Step) → StepFair legs s os b y → lots_after legs y b ≡ lots_past legs (execution_of s y) b
    past_step (pair x y t) fair = sym (lots_past_pair legs (execution_of s (pair x y t)) b (numbered os x ready fair.0.rests) (numbered os y ready fair.1.rests))
    past_step (legged o q t) fair = go o.buy refl
      where
        all : legs_taken legs o.buy q b ≡ takes legs o.buy q b
        all = granted legs o.buy q b fair.4.markets fit fair.4.free fair.2 fair.4.sizes

        go : (buy : Bool) → o.buy ≡ buy → legs_taken legs o.buy q b ≡ lots_past legs (execution_of s (legged o q t)) b
        go true side = all ∙ ap (λ d. takes legs d q b) side ∙ sym (lots_past_buy legs (execution_of s (legged o q t)) b (rw side))
        go false side =
            let number = numbered os o ready fair.0.rests in
            let selling : (execution_of s (legged o q t)).sell ≡ o.number = rw side in
            all ∙ ap (λ d. takes legs d q b) side ∙ sym (lots_past_sell legs (execution_of s (legged o q t)) b (omega (arith, selling)) (rw side))

    -- and the contracts that it takes are gone
    moved_step : (y : Step) → StepFair legs s os b y → (n : ℕ) (d : Side) → contracts (b n d) ≡ contracts_taken legs (execution_of s y) n d + contracts (lots_past legs (execution_of s y) b n d)
    moved_step (pair x y t) fair n d =
        let e = execution_of s (pair x y t) in
        let one = numbered os x ready fair.0.rests in
        let two = numbered os y ready fair.1.rests in
        let none : contracts_taken legs e n d ≡ 0 = contracts_taken_pair legs e n d one two in
        let same : contracts (lots_past legs e b n d) ≡ contracts (b n d) = ap (λ (l : Lots). contracts (l n d)) (lots_past_pair legs e b one two) in
        omega arith
    moved_step (legged o q t) fair n d = go o.buy refl
      where
        e : Execution
        e = execution_of s (legged o q t)

        all : contracts (b n d) ≡ sum (leg_contracts o.buy q n d) legs + contracts (takes legs o.buy q b n d)
        all = moved_by_takes legs o.buy q b fair.4.markets fit fair.4.free fair.2 fair.4.sizes n d

        go : (buy : Bool) → o.buy ≡ buy → contracts (b n d) ≡ contracts_taken legs (execution_of s (legged o q t)) n d + contracts (lots_past legs (execution_of s (legged o q t)) b n d)
        go true side =
            let selling : (execution_of s (legged o q t)).sell ≡ 0 = rw side in
            let taken : contracts_taken legs (execution_of s (legged o q t)) n d ≡ sum (leg_contracts true q n d) legs = contracts_taken_buy legs (execution_of s (legged o q t)) n d selling in
            let left : contracts (lots_past legs (execution_of s (legged o q t)) b n d) ≡ contracts (takes legs true q b n d) = ap (λ (l : Lots). contracts (l n d)) (lots_past_buy legs (execution_of s (legged o q t)) b selling) in
            let here : contracts (b n d) ≡ sum (leg_contracts true q n d) legs + contracts (takes legs true q b n d) = subst (λ f. contracts (b n d) ≡ sum (leg_contracts f q n d) legs + contracts (takes legs f q b n d)) side all in
            omega arith
        go false side =
            let number = numbered os o ready fair.0.rests in
            let sold : (execution_of s (legged o q t)).sell ≡ o.number = rw side in
            let selling : 1 ≤ (execution_of s (legged o q t)).sell = omega (arith, sold) in
            let buying : (execution_of s (legged o q t)).buy ≡ 0 = rw side in
            let taken : contracts_taken legs (execution_of s (legged o q t)) n d ≡ sum (leg_contracts false q n d) legs = contracts_taken_sell legs (execution_of s (legged o q t)) n d selling buying in
            let left : contracts (lots_past legs (execution_of s (legged o q t)) b n d) ≡ contracts (takes legs false q b n d) = ap (λ (l : Lots). contracts (l n d)) (lots_past_sell legs (execution_of s (legged o q t)) b selling buying) in
            let here : contracts (b n d) ≡ sum (leg_contracts false q n d) legs + contracts (takes legs false q b n d) = subst (λ f. contracts (b n d) ≡ sum (leg_contracts f q n d) legs + contracts (takes legs f q b n d)) side all in
            omega arith

  strategy_in : (y : Step) → (execution_of s y).strategy ≡ s
  strategy_in (pair x y t) = refl
  strategy_in (legged o q t) = refl

  pub executing : (t : Trading) (xs : List Execution) (u : Trading) → Ready t.orders → AllBacked t.orders → Trail legs s t xs u → Executing h t.lots xs u.lots
  unfolding after_step
  executing t [] u ready backed same = ap (λ (v : Trading). v.lots) same
  executing t (x ∷ xs) u ready backed trail =
      let y = trail.0 in
      let fair : StepFair legs s t.orders t.lots y = fair_step legs s t.orders t.lots y ready trail.1 in
      let more = executing (after_step legs y t) xs u (step_ready t.orders y ready) (λ o has. let from = step_stems t.orders y o has in same_backed h from.0 o from.2 (backed from.0 from.1)) trail.3 in
      let lawful : LawfulExecution h legs t.lots x = subst (LawfulExecution h legs t.lots) (sym trail.2) (lawful_step t.orders t.lots ready backed y fair) in
      let past : lots_after legs y t.lots ≡ lots_past legs x t.lots = past_step t.orders t.lots ready backed y fair ∙ ap (λ e. lots_past legs e t.lots) (sym trail.2) in
      let strategy : x.strategy ≡ s = ap (λ (e : Execution). e.strategy) trail.2 ∙ strategy_in y in
      (legs, subst (λ n. Defined h n legs) (sym strategy) known, lawful, subst (λ b. Executing h b xs u.lots) past more)

  pub moving : (n : ℕ) (d : Side) (t : Trading) (xs : List Execution) (u : Trading) → Ready t.orders → AllBacked t.orders → Trail legs s t xs u → (k : ℕ) × TakenIn h n d xs k × (contracts (t.lots n d) ≡ k + contracts (u.lots n d))
  unfolding after_step
  moving n d t [] u ready backed same = (0, refl, let here : contracts (u.lots n d) ≡ contracts (t.lots n d) = ap (λ (v : Trading). contracts (v.lots n d)) same in omega arith)
  moving n d t (x ∷ xs) u ready backed trail =
      let y = trail.0 in
      let fair : StepFair legs s t.orders t.lots y = fair_step legs s t.orders t.lots y ready trail.1 in
      let more = moving n d (after_step legs y t) xs u (step_ready t.orders y ready) (λ o has. let from = step_stems t.orders y o has in same_backed h from.0 o from.2 (backed from.0 from.1)) trail.3 in
      let past : lots_after legs y t.lots ≡ lots_past legs (execution_of s y) t.lots = past_step t.orders t.lots ready backed y fair in
      let first = moved_step t.orders t.lots ready backed y fair n d in
      let here : contracts (lots_after legs y t.lots n d) ≡ contracts (lots_past legs (execution_of s y) t.lots n d) = ap (λ (b : Lots). contracts (b n d)) past in
      let same : contracts_taken legs x n d ≡ contracts_taken legs (execution_of s y) n d = ap (λ e. contracts_taken legs e n d) trail.2 in
      let rest : contracts (lots_after legs y t.lots n d) ≡ more.0 + contracts (u.lots n d) = more.2 in
      let strategy : x.strategy ≡ s = ap (λ (e : Execution). e.strategy) trail.2 ∙ strategy_in y in
      (contracts_taken legs x n d + more.0, (legs, subst (λ m. Defined h m legs) (sym strategy) known, more.0, more.1, refl), omega arith)
