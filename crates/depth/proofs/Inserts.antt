-- A lot that is put in where it belongs joins its side, and no other.
use Rattle.std.proofs.Common.{◌≡◌, ℕ, ◌+◌, ◌<◌, Bool, true, false, not, ◌&&◌, ◌||◌, eqb, ltb, List, [], ◌∷◌, sym, refl, ap, ◌∙◌, inl, inr, arith}
use Rattle.std.specs.List.{AllByRecursion}
use Rattle.std.proofs.lemmas.Int.{ints}
use Rattle.std.proofs.lemmas.Bool.Decides.{nat_tests}
use Rattle.std.proofs.lemmas.Bool.{cond_both, cond-true, cond-false, cases_Bool, both_ways}
use Rattle.std.proofs.ByRecursion.{All-weaker}
use Rattle.simple.specs.declared.lot.Side.{Side}
use Rattle.simple.specs.declared.lot.Side.TheVariants.{Bid, Offer}
use Rattle.simple.specs.declared.lot.Lot.{Lot}
use Rattle.simple.specs.Lots.{contracts, precedes, insert_lot}
use Rattle.ranked.specs.Ranking.{Sorted, ranked_insert}
use Rattle.ranked.proofs.Lexes.{keys_transitive}
use Rattle.lots.specs.declared.posted.PostedLot.{PostedLot}
use Rattle.lots.specs.Rank.{is_bid, lot_ahead, lot_keys, lot_number}
use Rattle.depth.specs.Lots.{stands_on, lots_of}
use Rattle.depth.specs.Lawfulness.{side_ahead, ahead_on_side}
use Rattle.depth.specs.Post.{with_lot}
use Rattle.depth.proofs.Changes.{set_side, on_other}

-- of two lots of one side the earlier is ahead just where it precedes the later
rank_bid : (p m q n : ℕ) (c k : Bool) → m < n → side_ahead true p c m q k n ≡ (ltb q p || (eqb p q && (c || not k)))
rank_bid p m q n true true h = grind (arith, ints, nat_tests)
rank_bid p m q n true false h = grind (arith, ints, nat_tests)
rank_bid p m q n false true h = grind (arith, ints, nat_tests)
rank_bid p m q n false false h = grind (arith, ints, nat_tests)

rank_offer : (p m q n : ℕ) (c k : Bool) → m < n → side_ahead false p c m q k n ≡ (ltb p q || (eqb p q && (c || not k)))
rank_offer p m q n true true h = grind (arith, ints, nat_tests)
rank_offer p m q n true false h = grind (arith, ints, nat_tests)
rank_offer p m q n false true h = grind (arith, ints, nat_tests)
rank_offer p m q n false false h = grind (arith, ints, nat_tests)

rank_is : (d : Side) (x y : Lot) (m n : ℕ) → m < n → side_ahead (is_bid d) x.price x.customer m y.price y.customer n ≡ precedes d x y
rank_is Bid x y m n h = rank_bid x.price m y.price n x.customer y.customer h
rank_is Offer x y m n h = rank_offer x.price m y.price n x.customer y.customer h

module _ (s : ℕ) (d : Side) (e : PostedLot) (at : stands_on s d e ≡ true) where
  precedes_is : (x : PostedLot) → stands_on s d x ≡ true → x.number < e.number → lot_ahead x e ≡ precedes d x.lot e.lot
  precedes_is x on h = ahead_on_side s d x e on at ∙ rank_is d x.lot e.lot x.number e.number h

  -- no lot is ahead of e
  first_place : (ys : List PostedLot) → AllByRecursion (λ y. lot_ahead y e ≡ false) ys → AllByRecursion (λ y. y.number < e.number) ys → insert_lot d e.lot (lots_of ys s d) ≡ e.lot ∷ lots_of ys s d
  first_place [] a f = refl
  first_place (y ∷ ys) a f =
      elim (cases_Bool (stands_on s d y)) [
        | inl o ↦ let b : precedes d y.lot e.lot ≡ false = sym (precedes_is y o f.0) ∙ a.0 in simp (o, b)
        | inr o ↦ simp o (first_place ys a.1 f.1)
      ]

  insert_here : (xs : List PostedLot) → Sorted lot_ahead xs → AllByRecursion (λ x. x.number < e.number) xs → lots_of (ranked_insert lot_ahead e xs) s d ≡ insert_lot d e.lot (lots_of xs s d)
  insert_here [] a f = cond-true _ _ _ at
  insert_here (x ∷ xs) a f =
      elim (cases_Bool (lot_ahead x e)) [
        | inl h ↦ elim (cases_Bool (stands_on s d x)) [
          | inl o ↦ let b : precedes d x.lot e.lot ≡ true = sym (precedes_is x o f.0) ∙ h in let more = insert_here xs a.1 f.1 in simp (h, o, b, more)
          | inr o ↦ let more = insert_here xs a.1 f.1 in simp (h, o, more)
        ]
        | inr h ↦
            let none : AllByRecursion (λ y. lot_ahead y e ≡ false) xs =
            All-weaker (λ y. lot_ahead x y ≡ true) (λ y. lot_ahead y e ≡ false)
            (λ y k. elim (cases_Bool (lot_ahead y e)) [ inl m ↦ absurd (both_ways (lot_ahead x e) h (keys_transitive lot_number lot_keys x y e k m)) | inr m ↦ m ]) xs a.0 in
            ap (λ zs. lots_of zs s d) (cond-false (lot_ahead x e) (x ∷ ranked_insert lot_ahead e xs) (e ∷ x ∷ xs) h) ∙ cond-true _ _ _ at ∙ sym (first_place (x ∷ xs) (h, none) f)
      ]

  insert_elsewhere : (t : ℕ) (g : Side) → stands_on t g e ≡ false → (xs : List PostedLot) → lots_of (ranked_insert lot_ahead e xs) t g ≡ lots_of xs t g
  insert_elsewhere t g n [] = cond-false _ _ _ n
  insert_elsewhere t g n (x ∷ xs) =
      elim (cases_Bool (lot_ahead x e)) [
        | inl h ↦ let more = insert_elsewhere t g n xs in simp (h, more)
        | inr h ↦ simp (h, n)
      ]

  pub insert_meaning : (xs : List PostedLot) → Sorted lot_ahead xs → AllByRecursion (λ x. x.number < e.number) xs → lots_of (ranked_insert lot_ahead e xs) ≡ with_lot (lots_of xs) s d e.lot
  insert_meaning xs a f =
      set_side (lots_of xs) (lots_of (ranked_insert lot_ahead e xs)) s d (insert_lot d e.lot (lots_of xs s d)) (insert_here xs a f)
      (λ t g h. insert_elsewhere t g (on_other s d t g e h at) xs)

-- what holds of e and of each lot holds of each afterwards
pub all_inserted : (P : PostedLot → Type 0) (e : PostedLot) (xs : List PostedLot) → P e → AllByRecursion P xs → AllByRecursion P (ranked_insert lot_ahead e xs)
all_inserted P e [] p a = (p, tt)
all_inserted P e (x ∷ xs) p a =
    cond_both (lot_ahead x e) (x ∷ ranked_insert lot_ahead e xs) (e ∷ x ∷ xs) (AllByRecursion P) (λ _. (a.0, all_inserted P e xs p a.1)) (λ _. (p, a))

pub contracts_inserted : (d : Side) (l : Lot) (ls : List Lot) → contracts (insert_lot d l ls) ≡ l.size + contracts ls
contracts_inserted d l [] = refl
contracts_inserted d l (m ∷ ms) =
    cond_both (precedes d m l) (m ∷ insert_lot d l ms) (l ∷ m ∷ ms) (λ ls. contracts ls ≡ l.size + (m.size + contracts ms))
    (λ _. let h = contracts_inserted d l ms in omega arith) (λ _. refl)
