-- One side changes, and no other.
use Rattle.std.proofs.Common.{◌≡◌, ℕ, ◌-◌, ◌≤◌, Bool, true, false, ◌&&◌, eqb, ltb, List, [], ◌∷◌, refl, ap, ◌∙◌, inl, inr, arith}
use mathlib.Core.Path.{fun_ext}
use Rattle.std.proofs.lemmas.Bool.{cond_both, and_parts, and_from, eqb-true, eq-eqb, cases_Bool}
use Rattle.std.proofs.lemmas.Bool.Decides.{nat_tests}
use Rattle.simple.specs.declared.lot.Side.{Side}
use Rattle.simple.specs.declared.lot.Side.TheVariants.{Bid, Offer}
use Rattle.simple.specs.declared.lot.Lot.{Lot}
use Rattle.simple.specs.Lots.{Lots, same_side, with_side, contracts}
use Rattle.simple.specs.Take.{taken, take_from}
use Rattle.lots.specs.declared.posted.PostedLot.{PostedLot}
use Rattle.depth.specs.Lots.{stands_on, lots_of}
use Rattle.depth.specs.Take.{take_lots}

abbrev pub here : ℕ → Side → ℕ → Side → Bool
here s d t e = eqb t s && same_side e d

one_side : (e d : Side) → same_side e d ≡ true → e ≡ d
one_side Bid Bid h = refl
one_side Bid Offer h = cc
one_side Offer Bid h = cc
one_side Offer Offer h = refl

same_itself : (d : Side) → same_side d d ≡ true
same_itself Bid = refl
same_itself Offer = refl

-- a lot stands on its own side
pub on_own : (x : PostedLot) → stands_on x.series x.side x ≡ true
on_own x = and_from (eqb x.series x.series) (same_side x.side x.side) (eq-eqb x.series x.series refl) (same_itself x.side)

-- and on no other
pub on_other : (s : ℕ) (d : Side) (t : ℕ) (e : Side) (x : PostedLot) → here s d t e ≡ false → stands_on s d x ≡ true → stands_on t e x ≡ false
on_other s d t e x h o = other s d t e x.series x.side h o
  where
    other : (s : ℕ) (d : Side) (t : ℕ) (e : Side) (a : ℕ) (f : Side) → here s d t e ≡ false → (eqb a s && same_side f d) ≡ true → (eqb a t && same_side f e) ≡ false
    other s Bid t Bid a Bid h o = grind (arith, nat_tests)
    other s Bid t Bid a Offer h o = grind (arith, nat_tests)
    other s Bid t Offer a Bid h o = grind (arith, nat_tests)
    other s Bid t Offer a Offer h o = grind (arith, nat_tests)
    other s Offer t Bid a Bid h o = grind (arith, nat_tests)
    other s Offer t Bid a Offer h o = grind (arith, nat_tests)
    other s Offer t Offer a Bid h o = grind (arith, nat_tests)
    other s Offer t Offer a Offer h o = grind (arith, nat_tests)

-- what is set on one side, and left on every other
pub set_side : (b c : Lots) (s : ℕ) (d : Side) (new : List Lot) → c s d ≡ new → ((t : ℕ) (e : Side) → here s d t e ≡ false → c t e ≡ b t e) → c ≡ with_side b s d new
set_side b c s d new is other = fun_ext (λ t. fun_ext (λ e.
    cond_both (here s d t e) new (b t e) (λ ls. c t e ≡ ls)
    (λ h. let both = and_parts (eqb t s) (same_side e d) h in ap (λ t. c t e) (eqb-true t s both.0) ∙ ap (c s) (one_side e d both.1) ∙ is)
    (λ h. other t e h)))

-- a bound that every side keeps where one is set
pub side_within : (b : Lots) (s : ℕ) (d : Side) (new : List Lot) (n : ℕ) → contracts new ≤ n → ((t : ℕ) (e : Side) → contracts (b t e) ≤ n) → (t : ℕ) (e : Side) → contracts (with_side b s d new t e) ≤ n
side_within b s d new n small all t e = cond_both (here s d t e) new (b t e) (λ ls. contracts ls ≤ n) (λ _. small) (λ _. all t e)

module _ (s : ℕ) (d : Side) where
  take_here : (q : ℕ) (xs : List PostedLot) → lots_of (take_lots s d q xs) s d ≡ take_from q (lots_of xs s d)
  take_here q [] = refl
  take_here q (x ∷ xs) =
      elim (cases_Bool (stands_on s d x)) [
        | inl e ↦ elim (cases_Bool (ltb q x.lot.size)) [ inl f ↦ simp (e, f) | inr f ↦ simp (e, f) (take_here (q - x.lot.size) xs) ]
        | inr e ↦ simp e (take_here q xs)
      ]

  take_elsewhere : (t : ℕ) (e : Side) → here s d t e ≡ false → (q : ℕ) (xs : List PostedLot) → lots_of (take_lots s d q xs) t e ≡ lots_of xs t e
  take_elsewhere t e h q [] = refl
  take_elsewhere t e h q (x ∷ xs) =
      elim (cases_Bool (stands_on s d x)) [
        | inl o ↦
            let p : stands_on t e x ≡ false = on_other s d t e x h o in
            elim (cases_Bool (ltb q x.lot.size)) [ inl f ↦ simp (o, f, p) | inr f ↦ simp (o, f, p) (take_elsewhere t e h (q - x.lot.size) xs) ]
        | inr o ↦ let more = take_elsewhere t e h q xs in simp (o, more)
      ]

  pub take_meaning : (q : ℕ) (xs : List PostedLot) → lots_of (take_lots s d q xs) ≡ taken (lots_of xs) s d q
  take_meaning q xs = set_side (lots_of xs) (lots_of (take_lots s d q xs)) s d (take_from q (lots_of xs s d)) (take_here q xs) (λ t e h. take_elsewhere t e h q xs)
