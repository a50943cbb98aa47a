-- The best of a side is the first order that is of it.
use Rattle.std.proofs.Common.{◌≡◌, ℕ, Bool, List, [], ◌∷◌, cond, Some, refl, ap}
use Rattle.std.specs.List.{find}
use Rattle.rules.specs.declared.order.Order.{Order}
use Rattle.rules.specs.Orders.{is_of, best_order}

pub best_found : (s : ℕ) (buy : Bool) (os : List Order) → find (is_of s buy) os ≡ best_order s buy os
unfolding best_order
best_found s buy [] = refl
best_found s buy (o ∷ os) = ap (λ r. cond (is_of s buy o) (Some o) r) (best_found s buy os)
