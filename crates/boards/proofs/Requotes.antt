-- What a quote sets.
use Rattle.std.proofs.Common.{◌≡◌, ℕ, Bool, true, false, cond, not, eqb, List, [], ◌∷◌, filter, sym, refl, ap, ◌∙◌, inl, inr, arith}
use Rattle.std.proofs.lemmas.Bool.{cases_Bool, cond-true, cond-false, not-true}
use Rattle.simple.specs.declared.lot.Side.{Side}
use Rattle.simple.specs.declared.lot.Lot.{Lot}
use Rattle.simple.specs.Lots.{Lots, precedes, insert_lot}
use Rattle.boards.specs.Board.{standing, class_lots, requoted, quoted, Requoted}
use Rattle.simple.specs.TakeMoved.{side_here, side_elsewhere}

-- a lot that a test leaves out, and one that it keeps alone
module _ (test : Lot → Bool) (d : Side) (l : Lot) where
  kept_other : test l ≡ false → (ls : List Lot) → filter test (insert_lot d l ls) ≡ filter test ls
  kept_other out [] = simp out
  kept_other out (m ∷ ms) =
      let more = kept_other out ms in
      elim (cases_Bool (precedes d m l)) [ inl e ↦ simp (e, more) | inr e ↦ simp (e, out) ]

  kept_own : test l ≡ true → (ls : List Lot) → filter test ls ≡ [] → filter test (insert_lot d l ls) ≡ l ∷ []
  kept_own own [] none = simp own
  kept_own own (m ∷ ms) none =
      elim (cases_Bool (test m)) [
        | inl e ↦
            let z : ◌≡◌ {A = ℕ} 0 1 = cc (none, cond-true (test m) (m ∷ filter test ms) (filter test ms) e) in
            absurd (omega arith)
        | inr e ↦
            let rest : filter test ms ≡ [] = sym (cond-false (test m) (m ∷ filter test ms) (filter test ms) e) ∙ none in
            let more = kept_own own ms rest in
            elim (cases_Bool (precedes d m l)) [ inl f ↦ simp (f, e, more) | inr f ↦ simp (f, own, e, rest) ]
      ]

twice : (t : Bool) → t ≡ not (not t)
twice true = refl
twice false = refl

-- a class's lots among those of that class, and of the other
module _ (test other : Lot → Bool) (apart : (l : Lot) → other l ≡ not (test l)) where
  kept_twice : (ls : List Lot) → filter other (filter other ls) ≡ filter other ls
  kept_twice [] = refl
  kept_twice (l ∷ ls) =
      let more = kept_twice ls in
      elim (cases_Bool (other l)) [ inl e ↦ simp (e, more) | inr e ↦ simp (e, more) ]

  kept_apart : (ls : List Lot) → filter test (filter other ls) ≡ []
  kept_apart [] = refl
  kept_apart (l ∷ ls) =
      let more = kept_apart ls in
      elim (cases_Bool (other l)) [
        | inl e ↦ let out : test l ≡ false = not-true (test l) (sym (apart l) ∙ e) in simp (e, out, more)
        | inr e ↦ simp (e, more)
      ]

  module _ (d : Side) (l : Lot) (own : test l ≡ true) (ls : List Lot) where
    set_own : filter test (cond (eqb l.size 0) (filter other ls) (insert_lot d l (filter other ls))) ≡ standing l
    set_own =
        let none = kept_apart ls in
        let one = kept_own test d l own (filter other ls) none in
        elim (cases_Bool (eqb l.size 0)) [ inl e ↦ simp (e, none) | inr e ↦ simp (e, one) ]

    set_other : filter other (cond (eqb l.size 0) (filter other ls) (insert_lot d l (filter other ls))) ≡ filter other ls
    set_other =
        let out : other l ≡ false = apart l ∙ ap not own in
        let same = kept_twice ls in
        let beside = kept_other other d l out (filter other ls) in
        elim (cases_Bool (eqb l.size 0)) [ inl e ↦ simp (e, same) | inr e ↦ simp (e, beside, same) ]

module _ (d : Side) (l : Lot) (ls : List Lot) where
  abbrev left : Bool → List Lot
  left c = cond (eqb l.size 0) (class_lots (not c) ls) (insert_lot d l (class_lots (not c) ls))

  own_lots : (c : Bool) → l.customer ≡ c → class_lots c (left c) ≡ standing l
  own_lots true e = set_own (λ l. l.customer) (λ l. not l.customer) (λ _. refl) d l e ls
  own_lots false e = set_own (λ l. not l.customer) (λ l. l.customer) (λ l. twice l.customer) d l (ap not e) ls

  other_lots : (c : Bool) → l.customer ≡ c → class_lots (not c) (left c) ≡ class_lots (not c) ls
  other_lots true e = set_other (λ l. l.customer) (λ l. not l.customer) (λ _. refl) d l e ls
  other_lots false e = set_other (λ l. not l.customer) (λ l. l.customer) (λ l. twice l.customer) d l (ap not e) ls

pub quote_sets : (b b' : Lots) (s : ℕ) (d : Side) (l : Lot) → b' ≡ quoted b s d l → Requoted b b' s d l
quote_sets b b' s d l lots =
    let here : b' s d ≡ requoted d l (b s d) = ap (λ (b : Lots). b s d) lots ∙ side_here b s d (requoted d l (b s d)) in
    record {
      own = ap (class_lots l.customer) here ∙ own_lots d l (b s d) l.customer refl;
      other = ap (class_lots (not l.customer)) here ∙ other_lots d l (b s d) l.customer refl;
      elsewhere = λ s' d' apart. ap (λ (b : Lots). b s' d') lots ∙ side_elsewhere b s d (requoted d l (b s d)) s' d' apart;
    }
