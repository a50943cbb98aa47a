use Rattle.std.proofs.Common.{◌≡◌, None}
use Rattle.pricing.specs.Pair.{priced, first, nth}
use Rattle.pricing.proofs.Pricing.{Priced}
use Rattle.pricing.proofs.pair.search.Given as goal

abbrev pub invariant-price : goal.invariant-price
invariant-price l =
    (l.found ≡ None)
    × (first (λ k. priced l.legs (nth l.buy_is_older l.low l.high k)) l.step ≡ None)

abbrev pub invariant-loop-i : goal.invariant-loop-i
invariant-loop-i l = Priced l.legs l.i l.initial.rest l.rest l.prices l.matched l.improved
