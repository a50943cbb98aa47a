-- Rows of strategies: the first so many, the same legs, one strategy more.
use Rattle.std.proofs.Common.{◌≡◌, ℕ, Bool, true, false, ◌&&◌, ◌||◌, eqb, List, [], ◌∷◌, Some, None, Ok, Err, Option, Bor, Result, sym, refl, ap, ◌∙◌}
use Rattle.std.specs.Bool.{beq}
use Rattle.std.specs.List.{slice_get, list_any}
use Rattle.std.specs.Option.{option_map}
use Rattle.std.specs.Slice.{IsGetResult}
use Rattle.std.proofs.lemmas.Option.{slice_get-get_or, slice_get_past}
use Rattle.std.specs.Cmp.Lexicographic.{pointwise}
use Rattle.std.specs.Result.{result_ok}
use Rattle.refusals.specs.declared.reason.Reason.{Reason}
use Rattle.strategies.specs.declared.leg.Leg.{Leg}
use Rattle.strategies.specs.declared.row.StrategyRow.{StrategyRow}
use Rattle.strategies.specs.declared.strategy.Strategy.{Strategy}
use Rattle.strategies.specs.Rows.{row_legs}
use Rattle.strategies.specs.Strategies.{strategy_legs, checked, legs_made}
use Rattle.rules.specs.States.{legs_in, strategy_at, same_mark, same_leg, same_legs, stands_among}

-- the derived equality of legs
abbrev pub leg_eq : Leg → Leg → Bool
leg_eq a b = eqb a.series b.series && (beq a.bought b.bought && eqb a.ratio b.ratio)

same_leg_so : (a b : Leg) → leg_eq a b ≡ same_leg a b
same_leg_so a b = ap (λ t. eqb a.series b.series && (t && eqb a.ratio b.ratio)) (mark a.bought b.bought)
  where
    mark : (s t : Bool) → beq s t ≡ same_mark s t
    mark true true = refl
    mark true false = refl
    mark false true = refl
    mark false false = refl

same_legs_so : (xs ys : List Leg) → pointwise leg_eq xs ys ≡ same_legs xs ys
same_legs_so [] [] = refl
same_legs_so [] (y ∷ ys) = refl
same_legs_so (x ∷ xs) [] = refl
same_legs_so (x ∷ xs) (y ∷ ys) = ap (λ t. t && pointwise leg_eq xs ys) (same_leg_so x y) ∙ ap (λ t. same_leg x y && t) (same_legs_so xs ys)

-- some row has the legs
pub stands_so : (legs : List Leg) (rows : List StrategyRow) → list_any (λ row. pointwise leg_eq (row_legs row) legs) rows ≡ stands_among legs rows
unfolding stands_among
stands_so legs [] = refl
stands_so legs (row ∷ rows) =
    ap (λ t. t || list_any (λ row. pointwise leg_eq (row_legs row) legs) rows) (same_legs_so (row_legs row) legs)
    ∙ ap (λ t. same_legs (row_legs row) legs || t) (stands_so legs rows)

-- what a slice lends at a place
pub row_at : (rows : List StrategyRow) (n : ℕ) (r : Option (Bor StrategyRow)) → IsGetResult rows n n r → option_map (λ x. x.now) r ≡ slice_get rows n
row_at rows n None h = sym (slice_get_past rows n h.3)
row_at rows n (Some x) h = ap Some (h.3.1 x.now) ∙ sym (slice_get-get_or rows n x.now h.3.0)

-- the strategy of a number
module _ (rows : List StrategyRow) (n : ℕ) where
  pub strategy_none : None ≡ slice_get rows n → None ≡ strategy_at rows n
  unfolding strategy_at
  strategy_none e = ap legs_in e

  pub strategy_some : (row : StrategyRow) (r : Result Strategy Reason) → Some row ≡ slice_get rows n → legs_made r ≡ checked row → option_map strategy_legs (result_ok r) ≡ strategy_at rows n
  unfolding strategy_at
  strategy_some row (Ok s) e made = ap result_ok made ∙ ap legs_in e
  strategy_some row (Err why) e made = ap result_ok made ∙ ap legs_in e
