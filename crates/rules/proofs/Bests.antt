-- The best order of a side: it is one of the strategy and has the best limit, and a side without one has no order.
use Rattle.std.proofs.Common.{◌≡◌, ℕ, suc, Bool, true, false, not, eqb, ltb, List, [], ◌∷◌, ℤ, pos, ◌≤ℤ◌, Some, None, MatchBool, sym, refl, ap, ◌∙◌, subst, arith}
use Rattle.std.specs.List.{AllByRecursion}
use Rattle.std.proofs.ByRecursion.{all-has, All-weaker}
use Rattle.std.proofs.lemmas.Int.{ints}
use Rattle.std.proofs.lemmas.Bool.{and_parts, and_from, eqb-true, eq-eqb, not-true, true≢false}
use Rattle.std.proofs.lemmas.Option.{none-some}
use Rattle.ranked.specs.Lex.{lex, first_if, better}
use Rattle.ranked.specs.Ranking.{Sorted}
use Rattle.rules.specs.declared.order.Order.{Order}
use Rattle.rules.specs.Orders.{limit_of, order_ahead, is_of, best_order}
use Rattle.rules.proofs.Ready.{Ready, Mine}

pub some_same : {A : Type 0} (a b : A) → Some a ≡ Some b → a ≡ b
some_same a b e = cc

-- b has no worse limit than o: a buy no lower one, a sell no higher one
abbrev pub Better : Bool → Order → Order → Type 0
Better buy b o = MatchBool buy (limit_of o ≤ℤ limit_of b) (limit_of b ≤ℤ limit_of o)

pub by_rank : ℕ → ℕ → Bool → Bool → ℤ → ℤ → Bool → Bool
by_rank s s' b b' l l' n = lex (pos s) (pos s') (lex (first_if b) (first_if b') (lex (better b l) (better b' l') n))

pub rank_limit : (buy : Bool) (s s' : ℕ) (b b' : Bool) (l l' : ℤ) (n : Bool) → s ≡ s' → b ≡ buy → b' ≡ buy → by_rank s s' b b' l l' n ≡ true → MatchBool buy (l' ≤ℤ l) (l ≤ℤ l')
unfolding by_rank
rank_limit true s s' true true l l' n e p q h = grind (arith, ints)
rank_limit true s s' true false l l' n e p q h = absurd (true≢false (sym q))
rank_limit true s s' false b' l l' n e p q h = absurd (true≢false (sym p))
rank_limit false s s' false false l l' n e p q h = grind (arith, ints)
rank_limit false s s' false true l l' n e p q h = absurd (true≢false q)
rank_limit false s s' true b' l l' n e p q h = absurd (true≢false p)

-- what the test of an order tells
pub told : (s : ℕ) (buy : Bool) (o : Order) → is_of s buy o ≡ true → (o.strategy ≡ s) × (o.buy ≡ buy)
told s true o e = let p = and_parts (eqb o.strategy s) o.buy e in (eqb-true o.strategy s p.0, p.1)
told s false o e = let p = and_parts (eqb o.strategy s) (not o.buy) e in (eqb-true o.strategy s p.0, not-true o.buy p.1)

pub passed : (s : ℕ) (buy : Bool) (os : List Order) (o : Order) → Mine s buy os o → is_of s buy o ≡ true
passed s true os o m = and_from (eqb o.strategy s) o.buy (eq-eqb o.strategy s m.strategy) m.side
passed s false os o m = and_from (eqb o.strategy s) (not o.buy) (eq-eqb o.strategy s m.strategy) (ap not m.side)

pub ahead_better : (buy : Bool) (s : ℕ) (x y : Order) → is_of s buy x ≡ true → order_ahead x y ≡ true → is_of s buy y ≡ true → Better buy x y
unfolding by_rank
ahead_better buy s x y mx h my =
    let a = told s buy x mx in
    let b = told s buy y my in
    rank_limit buy x.strategy y.strategy x.buy y.buy (limit_of x) (limit_of y) (ltb x.number y.number) (a.0 ∙ sym b.0) a.1 b.1 h

pub same_better : (buy : Bool) (x : Order) → Better buy x x
same_better true x = omega (arith, ints)
same_better false x = omega (arith, ints)

module _ (s : ℕ) (buy : Bool) where
  pub best_limit : (os : List Order) (b : Order) → Sorted order_ahead os → best_order s buy os ≡ Some b → AllByRecursion (λ o. is_of s buy o ≡ true → Better buy b o) os
  unfolding best_order
  best_limit [] b sorted e = tt
  best_limit (x ∷ os) b sorted e = go (is_of s buy x) refl (best_limit os b sorted.1)
    where
      go : (t : Bool) → is_of s buy x ≡ t → (best_order s buy os ≡ Some b → AllByRecursion (λ o. is_of s buy o ≡ true → Better buy b o) os) → AllByRecursion (λ o. is_of s buy o ≡ true → Better buy b o) (x ∷ os)
      go true et ih =
          let is : x ≡ b = some_same x b (rw et at e) in
          let P : Order → Type 0 = λ b. AllByRecursion (λ o. is_of s buy o ≡ true → Better buy b o) (x ∷ os) in
          subst P is (λ _. same_better buy x, All-weaker (λ y. order_ahead x y ≡ true) (λ o. is_of s buy o ≡ true → Better buy x o) (λ y h. ahead_better buy s x y et h) os sorted.0)
      go false et ih = (λ m. absurd (true≢false (sym m ∙ et)), ih (rw et at e))

  pub best_none : (os : List Order) → best_order s buy os ≡ None → AllByRecursion (λ o. is_of s buy o ≡ true → ⊥) os
  unfolding best_order
  best_none [] e = tt
  best_none (x ∷ os) e = go (is_of s buy x) refl (best_none os)
    where
      go : (t : Bool) → is_of s buy x ≡ t → (best_order s buy os ≡ None → AllByRecursion (λ o. is_of s buy o ≡ true → ⊥) os) → AllByRecursion (λ o. is_of s buy o ≡ true → ⊥) (x ∷ os)
      go true et ih = absurd (none-some x (sym (rw et at e)))
      go false et ih = (λ m. true≢false (sym m ∙ et), ih (rw et at e))

  -- the best order is one of the strategy on that side
  pub best_mine : (os : List Order) (b : Order) → best_order s buy os ≡ Some b → Mine s buy os b
  unfolding best_order
  best_mine [] b e = absurd (none-some b e)
  best_mine (x ∷ os) b e = go (is_of s buy x) refl (best_mine os b)
    where
      go : (t : Bool) → is_of s buy x ≡ t → (best_order s buy os ≡ Some b → Mine s buy os b) → Mine s buy (x ∷ os) b
      go true et ih =
          let is : x ≡ b = some_same x b (rw et at e) in
          let a = told s buy x et in
          let P : Order → Type 0 = λ b. Mine s buy (x ∷ os) b in
          subst P is (record { rests = (0, omega arith, λ d. refl); strategy = a.0; side = a.1 })
      go false et ih =
          let r = ih (rw et at e) in
          let h = r.rests in
          record { rests = (suc h.0, omega (arith, h.1), h.2); strategy = r.strategy; side = r.side }

  -- no order of that side has a better limit
  pub bettered : (os : List Order) (b o : Order) → Ready os → best_order s buy os ≡ Some b → Mine s buy os o → Better buy b o
  bettered os b o ready e m = all-has (λ o. is_of s buy o ≡ true → Better buy b o) os o (best_limit os b ready.sorted e) m.rests (passed s buy os o m)

  -- without a best order the side has none
  pub none_mine : (os : List Order) (o : Order) → best_order s buy os ≡ None → Mine s buy os o → ⊥
  none_mine os o e m = all-has (λ o. is_of s buy o ≡ true → ⊥) os o (best_none os e) m.rests (passed s buy os o m)
