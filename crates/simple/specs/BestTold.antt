-- What best tells of the lists of a simple book, shown from their law.
use Rattle.std.specs.Prelude.{◌≡◌, ℕ, ◌+◌, ◌≤◌, Bool, true, false, not, ◌&&◌, ◌||◌, List, [], ◌∷◌, filter, ◌==◌, nat_eq, nat_lt, refl}
use Rattle.std.proofs.Common.{ap, inl, inr, arith}
use Rattle.std.proofs.lemmas.Bool.{cond_both, cond-true, eq-eqb, eqb-true, ltb-true, le-ltb, or_cases, and_parts}
use Rattle.std.proofs.ByRecursion.{All-weaker}
use Rattle.simple.specs.declared.lot.Side.{Side}
use Rattle.simple.specs.declared.lot.Side.TheVariants.{Bid, Offer}
use Rattle.simple.specs.declared.lot.Lot.{Lot}
use Rattle.simple.specs.Limits.{side_limit}
use Rattle.simple.specs.Lots.{Lots, better, precedes, Ranked, contracts, Lawful}
use Rattle.simple.specs.Best.{at_price, best_of, Tells, BestTold}

-- some of the lots have no more contracts than all of them
pub contracts_kept : (test : Lot → Bool) (ls : List Lot) → contracts (filter test ls) ≤ contracts ls
contracts_kept test [] = omega arith
contracts_kept test (l ∷ ls) =
    let more = contracts_kept test ls in
    cond_both (test l) (l ∷ filter test ls) (filter test ls) (λ ks. contracts ks ≤ l.size + contracts ls) (λ _. omega arith) (λ _. omega arith)

-- a price that is better, or the same, has none better than it
no_better : (d : Side) (p q : ℕ) (rest : Bool) → (better d p q || (p == q && rest)) ≡ true → better d q p ≡ false
no_better Bid p q rest h =
    elim (or_cases (nat_lt q p) (p == q && rest) h) [
      | inl up ↦ let high = ltb-true q p up in le-ltb p q (omega arith)
      | inr tie ↦ let same = eqb-true p q (and_parts (p == q) rest tie).0 in le-ltb p q (omega arith)
    ]
no_better Offer p q rest h =
    elim (or_cases (nat_lt p q) (p == q && rest) h) [
      | inl down ↦ let low = ltb-true p q down in le-ltb q p (omega arith)
      | inr tie ↦ let same = eqb-true p q (and_parts (p == q) rest tie).0 in le-ltb q p (omega arith)
    ]

-- no price is better than itself
not_better : (d : Side) (p : ℕ) → better d p p ≡ false
not_better Bid p = le-ltb p p (omega arith)
not_better Offer p = le-ltb p p (omega arith)

side_tells : (d : Side) (ls : List Lot) → Ranked d ls → contracts ls ≤ side_limit → Tells d ls (best_of ls)
side_tells d [] ranked within = refl
side_tells d (l ∷ ls) ranked within =
    let p = l.price in
    let at = at_price p (l ∷ ls) in
    let own : contracts at ≡ l.size + contracts (at_price p ls) = ap contracts (cond-true (p == p) (l ∷ at_price p ls) (at_price p ls) (eq-eqb p p refl)) in
    let size = ranked.0.some in
    record {
      first = (l, ls, refl, refl);
      size = refl;
      customer = refl;
      best = (not_better d p, All-weaker (λ m. precedes d l m ≡ true) (λ m. better d m.price p ≡ false) (λ m h. no_better d p m.price (l.customer || not m.customer) h) ls ranked.1);
      least = ranked.0.least;
      most = ranked.0.most;
      some = omega arith;
      within = omega (arith, contracts_kept (λ m. nat_eq m.price p) (l ∷ ls));
      part = contracts_kept (λ m. m.customer) at;
    }

pub best_told : (b : Lots) → Lawful b → BestTold b
best_told b law s d = side_tells d (b s d) (law.ranked s d) (law.within s d)
