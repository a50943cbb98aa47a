-- What it does to a list to put an entry in where it belongs.
use Rattle.std.proofs.Common.{◌≡◌, ℕ, Bool, true, false, cond, not, List, [], ◌∷◌, filter, sym, refl, ap, ◌∙◌, inl, inr, one-add}
use Rattle.std.specs.List.{insert, AllByRecursion}
use Rattle.std.specs.List.Sorted.{IsPermutation}
use Rattle.std.proofs.ByRecursion.{All-weaker}
use Rattle.std.proofs.lemmas.List.Sorted.{IsPermutation-refl, IsPermutation-cons, IsPermutation-trans}
use Rattle.std.proofs.lemmas.Bool.{cases_Bool, both_ways, not_from_false}
use Rattle.ranked.specs.Ranking.{place_of, ranked_insert, parted_by, Pairwise, Sorted, Distinct, Absent}
use Rattle.ranked.specs.Laws.{LawfulInsertion}
use Rattle.ranked.proofs.Lists.{kept_none, kept_all, swap_first}

module _ {X : Type 0} (ahead : X → X → Bool) (e : X) where
  -- it is an insertion at the place where the entry belongs
  pub insert_is : (xs : List X) → ranked_insert ahead e xs ≡ insert xs (place_of ahead e xs) e
  insert_is [] = refl
  insert_is (x ∷ xs) =
      elim (cases_Bool (ahead x e)) [
        | inl h ↦ simp (h, one-add) (ap (λ ys. x ∷ ys) (insert_is xs))
        | inr h ↦ simp h
      ]

  -- what holds of e and of each entry holds of each afterwards
  pub all_insert : (P : X → Type 0) (xs : List X) → P e → AllByRecursion P xs → AllByRecursion P (ranked_insert ahead e xs)
  all_insert P [] p a = (p, tt)
  all_insert P (x ∷ xs) p a =
      elim (ahead x e) as (λ b. AllByRecursion P (cond b (x ∷ ranked_insert ahead e xs) (e ∷ x ∷ xs)))
      [ true ↦ (a.0, all_insert P xs p a.1) | false ↦ (p, a) ]

  -- it adds e, and nothing else
  pub insert_keeps : (xs : List X) → IsPermutation (e ∷ xs) (ranked_insert ahead e xs)
  insert_keeps [] = IsPermutation-refl (e ∷ [])
  insert_keeps (x ∷ xs) =
      elim (ahead x e) as (λ b. IsPermutation (e ∷ x ∷ xs) (cond b (x ∷ ranked_insert ahead e xs) (e ∷ x ∷ xs))) [
        | true ↦ IsPermutation-trans (e ∷ x ∷ xs) (x ∷ e ∷ xs) (x ∷ ranked_insert ahead e xs)
            (swap_first e x xs)
            (IsPermutation-cons x (e ∷ xs) (ranked_insert ahead e xs) (insert_keeps xs))
        | false ↦ IsPermutation-refl (e ∷ x ∷ xs)
      ]

  -- what e and each entry are to one another, all entries are afterwards
  insert_pairwise : (R : X → X → Type 0) (xs : List X) → AllByRecursion (λ x. R x e) xs → AllByRecursion (R e) xs → Pairwise R xs → Pairwise R (ranked_insert ahead e xs)
  insert_pairwise R [] low high p = (tt, tt)
  insert_pairwise R (x ∷ xs) low high p =
      elim (ahead x e) as (λ b. Pairwise R (cond b (x ∷ ranked_insert ahead e xs) (e ∷ x ∷ xs)))
      [ true ↦ (all_insert (R x) xs low.0 p.0, insert_pairwise R xs low.1 high.1 p.1) | false ↦ (high, p) ]

  pub insert_distinct : (serial : X → ℕ) (xs : List X) → Absent serial (serial e) xs → Distinct serial xs → Distinct serial (ranked_insert ahead e xs)
  insert_distinct serial xs fresh d =
      let back : AllByRecursion (λ x. serial e ≡ serial x → ⊥) xs = All-weaker (λ x. serial x ≡ serial e → ⊥) (λ x. serial e ≡ serial x → ⊥) (λ x ne same. ne (sym same)) xs fresh in
      insert_pairwise (λ x y. serial x ≡ serial y → ⊥) xs fresh back d

  module _ (transitive : (x y z : X) → ahead x y ≡ true → ahead y z ≡ true → ahead x z ≡ true) where
    -- in a sorted list e comes to stand behind every entry that is ahead of it
    pub insert_placed : (xs : List X) → Sorted ahead xs → ranked_insert ahead e xs ≡ parted_by ahead e xs
    insert_placed [] s = refl
    insert_placed (x ∷ xs) s =
        elim (cases_Bool (ahead x e)) [
          | inl h ↦ simp h (ap (λ ys. x ∷ ys) (insert_placed xs s.1))
          | inr h ↦
              let none : AllByRecursion (λ y. ahead y e ≡ false) xs =
              All-weaker (λ y. ahead x y ≡ true) (λ y. ahead y e ≡ false)
              (λ y k. elim (cases_Bool (ahead y e)) [ inl m ↦ absurd (both_ways (ahead x e) h (transitive x y e k m)) | inr m ↦ m ]) xs s.0 in
              let rest : AllByRecursion (λ y. not (ahead y e) ≡ true) xs = All-weaker (λ y. ahead y e ≡ false) (λ y. not (ahead y e) ≡ true) (λ y. not_from_false (ahead y e)) xs none in
              let before : filter (λ y. ahead y e) xs ≡ [] = kept_none (λ y. ahead y e) xs none in
              let behind : filter (λ y. not (ahead y e)) xs ≡ xs = kept_all (λ y. not (ahead y e)) xs rest in
              simp (h, before, behind)
        ]

    -- a sorted list stays sorted, if no entry has the number of e
    pub insert_sorted : (serial : X → ℕ) → ((x y : X) → (serial x ≡ serial y → ⊥) → ahead x y ≡ not (ahead y x))
        → (xs : List X) → Absent serial (serial e) xs → Sorted ahead xs → Sorted ahead (ranked_insert ahead e xs)
    insert_sorted serial connected [] fresh s = (tt, tt)
    insert_sorted serial connected (x ∷ xs) fresh s =
        elim (ahead x e) as (λ b. ahead x e ≡ b → Sorted ahead (cond b (x ∷ ranked_insert ahead e xs) (e ∷ x ∷ xs))) [
          | true ↦ λ h. (all_insert (λ y. ahead x y ≡ true) xs h s.0, insert_sorted serial connected xs fresh.1 s.1)
          | false ↦ λ h.
              let first : ahead e x ≡ true = connected e x (λ q. fresh.0 (sym q)) ∙ ap not h in
              ((first, All-weaker (λ y. ahead x y ≡ true) (λ y. ahead e y ≡ true) (λ y. transitive e x y first) xs s.0), s)
        ]
        refl

    pub lawful_insertion : (serial : X → ℕ) → ((x y : X) → (serial x ≡ serial y → ⊥) → ahead x y ≡ not (ahead y x))
        → (xs : List X) → LawfulInsertion ahead serial e xs true (ranked_insert ahead e xs)
    lawful_insertion serial connected xs = record {
      placed = insert_placed xs;
      sorted = insert_sorted serial connected xs;
      distinct = insert_distinct serial xs;
      keeps = insert_keeps xs;
    }
