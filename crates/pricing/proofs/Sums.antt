-- What the parts of the legs add up to.
use Rattle.std.proofs.Common.{◌≡◌, ℕ, ◌+◌, ◌*◌, Bool, true, false, List, [], ◌∷◌, length, map, fold, ℤ, pos, negsuc, ◌+ℤ◌, neg_ℤ, ◌≤ℤ◌, refl, ◌∙◌, arith, mul-le-mul, le_trans, le_of_lt, zero, suc, leb, take, rules, tests, Option, ap, subst, sym, FitsSigned, w64}
use Rattle.std.proofs.lemmas.Bool.{and_parts}
use Rattle.std.proofs.lemmas.Int.{ints}
use Rattle.std.specs.Bool.{⊤}
use Rattle.std.proofs.lemmas.List.{map-id}
use Rattle.std.proofs.lemmas.Iterator.{YieldsList, items_from_drains}
use Rattle.std.proofs.lemmas.Iterator.Consumers.{YieldsList-so_far}
use Rattle.std.specs.Iterator.{Yields, Drains}
use Rattle.std.specs.Iterator.Runs.{EachRunFrom, YieldsRun}
use Rattle.pricing.specs.declared.market.LegMarket.{LegMarket}
use Rattle.pricing.specs.Legs.{net_bid, net_offer, part_taken}
use Rattle.pricing.specs.Legging.{net_taken}
use Rattle.pricing.specs.Sound.{leg_sound, legs_sound, Sound}
use Rattle.pricing.proofs.Soundness.{few, leg_told}

abbrev Within : ℤ → ℕ → Type 0
Within z n = (neg_ℤ (pos n) ≤ℤ z) × (z ≤ℤ pos n)

fits : (z : ℤ) → Within z 32000000 → FitsSigned w64 z
fits (pos n) w = record { sfits = omega (arith, ints, w.1) }
fits (negsuc n) w = record { sfits = omega (arith, ints, w.0) }

net_none : (buy : Bool) → net_taken [] buy ≡ pos 0
unfolding net_bid net_offer
net_none true = refl
net_none false = refl

net_cons : (buy : Bool) (m : LegMarket) (ms : List LegMarket) → net_taken (m ∷ ms) buy ≡ part_taken buy m +ℤ net_taken ms buy
unfolding net_bid net_offer
net_cons true m ms = refl
net_cons false m ms = refl

module _ (buy : Bool) where
  added : (ms : List LegMarket) (z : ℤ) → fold ◌+ℤ◌ z (map (part_taken buy) ms) ≡ z +ℤ net_taken ms buy
  added [] z = omega (arith, ints, net_none buy)
  added (m ∷ ms) z = added ms (z +ℤ part_taken buy m) ∙ omega (arith, ints, net_cons buy m ms)

  part_within : (m : LegMarket) → leg_sound m ≡ true → Within (part_taken buy m) 8000000
  part_within m e =
      let told = leg_told m e in
      let low = mul-le-mul told.most (le_trans (le_of_lt told.crossed) told.high) in
      let high = mul-le-mul told.most told.high in
      search (rules, tests)

  part_sums : (ms : List LegMarket) (k : ℕ) (z : ℤ) (n : ℕ) → legs_sound ms ≡ true → Within z n → Within (fold ◌+ℤ◌ z (take k (map (part_taken buy) ms))) (n + 8000000 * length ms)
  part_sums ms zero z n s w = (omega (arith, ints, w.0), omega (arith, ints, w.1))
  part_sums [] (suc k) z n s w = (omega (arith, ints, w.0), omega (arith, ints, w.1))
  part_sums (m ∷ ms) (suc k) z n s w =
      let sound = and_parts (leg_sound m) (legs_sound ms) s in
      let own = part_within m sound.0 in
      let next = part_sums ms k (z +ℤ part_taken buy m) (n + 8000000) sound.1 (omega (arith, ints, w.0, own.0), omega (arith, ints, w.1, own.1)) in
      (omega (arith, ints, next.0), omega (arith, ints, next.1))

  module _ (ms : List LegMarket) (sound : Sound ms) where
    abbrev parts : List ℤ
    parts = map (part_taken buy) ms

    -- the sum of the first parts is within 32,000,000 either way
    first_parts : (k : ℕ) → Within (fold ◌+ℤ◌ (pos 0) (take k parts)) 32000000
    first_parts k =
        let short = few ms sound in
        let w = part_sums ms k (pos 0) 0 (and_parts (leb (length ms) 4) (legs_sound ms) sound).1 (omega (arith, ints), omega (arith, ints)) in
        (omega (arith, ints, w.0, short), omega (arith, ints, w.1, short))

    -- what an iterator of the parts has yielded adds up to such a sum, and all that it yields to the net price
    module _ {S : Type 0} {steps : S → Option ℤ → S → Type 0} {s : S} where
      yielded : (xs : List ℤ) (t : S) → Yields steps s xs t → YieldsList steps (λ x. x) s parts → Within (fold ◌+ℤ◌ (pos 0) xs) 32000000
      yielded xs t y e = subst (λ ys. Within (fold ◌+ℤ◌ (pos 0) ys) 32000000) (sym (sym (map-id xs) ∙ YieldsList-so_far e xs t y)) (first_parts (length xs))

      pub sums_fit : YieldsList steps (λ x. x) s parts → EachRunFrom steps s (λ p. FitsSigned w64 (fold ◌+ℤ◌ (pos 0) p.items))
      unfolding YieldsRun
      sums_fit e = λ p _ at. fits (fold ◌+ℤ◌ (pos 0) p.items) (yielded p.items p.gave.0.0 (subst (λ u. Yields steps u p.items p.gave.0.0) at p.gave.0.1) e)

      pub sum_is : (r : ℤ) → ((xs : List ℤ) × (⊤ → Drains steps s xs) × (r ≡ fold ◌+ℤ◌ (pos 0) xs)) → YieldsList steps (λ x. x) s parts → (r ≡ net_taken ms buy) × Within r 32000000
      sum_is r h e =
          let d = h.1 tt in
          let every : h.0 ≡ parts = sym (map-id h.0) ∙ items_from_drains h.0 (d.1.0, d.1.1, λ _. (d.0, d.1.2)) e in
          (h.2 ∙ ap (fold ◌+ℤ◌ (pos 0)) every ∙ added ms (pos 0) ∙ omega (arith, ints), subst (λ n. Within n 32000000) (sym h.2) (yielded h.0 d.1.0 d.1.1 e))
