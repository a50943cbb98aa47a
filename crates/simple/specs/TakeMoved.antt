-- What an accepted take moves, shown from what it leaves.
use Rattle.std.specs.Prelude.{◌≡◌, ℕ, ◌+◌, ◌-◌, ◌≤◌, Bool, true, false, cond, ◌&&◌, List, [], ◌∷◌, Ok, Err, ◌==◌, nat_eq, nat_lt, refl}
use Rattle.std.proofs.Common.{sym, ap, subst, ◌∙◌, arith}
use Rattle.std.proofs.lemmas.Bool.{cond_both, cond-true, eq-eqb, eqb-true, ltb-true, ltb-false, or_parts, and_from, and_parts}
use Rattle.refusals.specs.declared.refusal.Refusal.{Refusal}
use Rattle.simple.specs.declared.lot.Side.{Side}
use Rattle.simple.specs.declared.lot.Side.TheVariants.{Bid, Offer}
use Rattle.simple.specs.declared.lot.Lot.{Lot}
use Rattle.simple.specs.Lots.{Lots, contracts, same_side, with_side}
use Rattle.simple.specs.Best.{best_of, best_size}
use Rattle.simple.specs.Take.{Done, resized, take_from, taken, take_answer, Reduced, Shortened, Moved, TakeMoved}
use Rattle.simple.specs.BestTold.{contracts_kept}

-- a side is itself, and no other
same_itself : (d : Side) → same_side d d ≡ true
same_itself Bid = refl
same_itself Offer = refl

one_side : (e d : Side) → same_side e d ≡ true → e ≡ d
one_side Bid Bid h = refl
one_side Bid Offer h = cc
one_side Offer Bid h = cc
one_side Offer Offer h = refl

-- the side that is replaced, and every other
module _ (b : Lots) (s : ℕ) (d : Side) (ls : List Lot) where
  pub side_here : with_side b s d ls s d ≡ ls
  side_here = cond-true (s == s && same_side d d) ls (b s d) (and_from (s == s) (same_side d d) (eq-eqb s s refl) (same_itself d))

  pub side_elsewhere : (s' : ℕ) (d' : Side) → ((s' ≡ s) × (d' ≡ d) → ⊥) → with_side b s d ls s' d' ≡ b s' d'
  side_elsewhere s' d' other =
      cond_both (s' == s && same_side d' d) ls (b s' d') (λ ks. ks ≡ b s' d')
      (λ e. let both = and_parts (s' == s) (same_side d' d) e in absurd (other (eqb-true s' s both.0, one_side d' d both.1)))
      (λ _. refl)

-- the quantity is gone, and from the front
left_contracts : (q : ℕ) (ls : List Lot) → q ≤ contracts ls → contracts (take_from q ls) + q ≡ contracts ls
left_contracts q [] h = omega arith
left_contracts q (l ∷ ls) h =
    cond_both (nat_lt q l.size) (resized l (l.size - q) ∷ ls) (take_from (q - l.size) ls) (λ ks. contracts ks + q ≡ l.size + contracts ls)
    (λ e. omega (arith, ltb-true q l.size e))
    (λ e. let big = ltb-false q l.size e in let more = left_contracts (q - l.size) ls (omega arith) in omega arith)

shortened : (q : ℕ) (ls : List Lot) → Shortened q ls (take_from q ls)
shortened q [] = record { gone = []; left = []; split = refl; whole = omega arith; rest = refl }
shortened q (l ∷ ls) =
    cond_both (nat_lt q l.size) (resized l (l.size - q) ∷ ls) (take_from (q - l.size) ls) (Shortened q (l ∷ ls))
    (λ e.
    let small = ltb-true q l.size e in
    let none : q ≡ q - 0 = omega arith in
    record { gone = []; left = l ∷ ls; split = refl; whole = omega arith; rest = (omega arith, ap (λ n. resized l (l.size - n) ∷ ls) none) })
    (λ e.
    let big = ltb-false q l.size e in
    let more = shortened (q - l.size) ls in
    let whole = more.whole in
    let both : q - l.size - contracts more.gone ≡ q - (l.size + contracts more.gone) = omega arith in
    record { gone = l ∷ more.gone; left = more.left; split = ap (λ ks. l ∷ ks) more.split; whole = omega arith; rest = subst (λ n. Reduced n more.left (take_from (q - l.size) ls)) both more.rest })

-- a side's best has no more contracts than the side
pub best_within : (ls : List Lot) → best_size (best_of ls) ≤ contracts ls
best_within [] = omega arith
best_within (l ∷ ls) = contracts_kept (λ m. nat_eq m.price l.price) (l ∷ ls)

-- a test that was passed
pub passed : (t : Bool) (e : Refusal) (rest : Done) → Ok tt ≡ cond t (Err e) rest → (t ≡ false) × (Ok tt ≡ rest)
passed true e rest h = let z : ◌≡◌ {A = ℕ} 0 1 = cc in absurd (omega arith)
passed false e rest h = (refl, h)

-- what is taken is within the side's best
pub take_within : (b : Lots) (s : ℕ) (d : Side) (q : ℕ) → Ok tt ≡ take_answer b s d q → q ≤ best_size (best_of (b s d))
take_within b s d q h =
    let few = (passed _ _ _ (passed _ _ _ h).1).0 in
    ltb-false (best_size (best_of (b s d))) q (or_parts (q == 0) (nat_lt (best_size (best_of (b s d))) q) few).1

moved : (b : Lots) (s : ℕ) (d : Side) (q : ℕ) → q ≤ contracts (b s d) → Moved b (taken b s d q) s d q
moved b s d q h =
    let here = side_here b s d (take_from q (b s d)) in
    record {
      quantity = ap (λ ls. contracts ls + q) here ∙ left_contracts q (b s d) h;
      front = subst (Shortened q (b s d)) (sym here) (shortened q (b s d));
      elsewhere = side_elsewhere b s d (take_from q (b s d));
    }

pub take_moved : (b : Lots) → TakeMoved b
take_moved b s d q granted =
    let within = take_within b s d q (sym granted) in
    let all = best_within (b s d) in
    moved b s d q (omega arith)
