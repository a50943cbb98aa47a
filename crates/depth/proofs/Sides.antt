-- Where the lots of a side stand among all lots.
use Rattle.std.proofs.Common.{◌≡◌, ℕ, zero, suc, ◌+◌, ◌-◌, ◌<◌, ◌≤◌, Bool, true, false, not, List, [], ◌∷◌, ◌++◌, length, get_or, take, drop, sym, refl, ap, ◌∙◌, subst, inl, inr, one-add, arith}
use Rattle.std.specs.List.{position_from, prefix_len, sum_by, AllByRecursion}
use Rattle.std.specs.Option.{unwrap_or}
use Rattle.std.specs.List.Sorted.{IsPartitionedBy, IsPartitionPoint}
use Rattle.std.proofs.ByRecursion.{All-weaker, All-get_or, All-take}
use Rattle.std.proofs.lemmas.List.{take-append-drop, drop-drop, append-nil, length-drop}
use Rattle.std.proofs.lemmas.List.Sums.{prefix_len-le-length, prefix_len_is}
use Rattle.std.proofs.lemmas.List.Recursion.{is_sum_by}
use Rattle.std.proofs.lemmas.Bool.{cond-true, cond-false, cases_Bool}
use Rattle.simple.specs.declared.lot.Side.{Side}
use Rattle.simple.specs.declared.lot.Side.TheVariants.{Bid}
use Rattle.simple.specs.Lots.{contracts}
use Rattle.ranked.specs.Ranking.{Pairwise, Sorted}
use Rattle.lots.specs.declared.posted.PostedLot.{PostedLot}
use Rattle.lots.specs.Rank.{lot_ahead}
use Rattle.depth.specs.Lots.{stands_on, lots_of, all_lots}
use Rattle.depth.specs.Running.{stands_before, Stretch}
use Rattle.depth.proofs.Runs.{all_off, before_is_off, none_on, all_on, lots_append, on_first}
use Rattle.depth.proofs.Takes.{sorted_drop, start_none}

-- what no place holds
abbrev pub no_lot : PostedLot
no_lot = record { series = 0; side = Bid; lot = record { price = 0; size = 0; customer = false }; number = 0 }

pub contracts_sum : (xs : List PostedLot) → contracts (all_lots xs) ≡ sum_by (λ x. x.lot.size) xs
contracts_sum = is_sum_by (λ xs. contracts (all_lots xs)) (λ x. x.lot.size) refl (λ x xs. refl)

-- a test that no entry passes behind one that fails it
module _ {X : Type 0} (p : X → Bool) where
  pub parted : (xs : List X) → Pairwise (λ x y. p y ≡ true → p x ≡ true) xs → IsPartitionedBy p xs
  parted [] a i j d le lt up = absurd (omega arith)
  parted (x ∷ xs) a zero zero d le lt up = up
  parted (x ∷ xs) a zero (suc j) d le lt up = All-get_or (λ y. p y ≡ true → p x ≡ true) xs j d (omega arith) a.0 up
  parted (x ∷ xs) a (suc i) zero d le lt up = absurd (omega arith)
  parted (x ∷ xs) a (suc i) (suc j) d le lt up = parted xs a.1 i j d (omega arith) (omega arith) up

  pub point_is : (xs : List X) (n : ℕ) (d : X) → n ≤ length xs → IsPartitionPoint (λ y. p y ≡ true) (λ y. p y ≡ false) xs n → n ≡ prefix_len p xs
  point_is xs n d le point = sym (prefix_len_is p xs n d le (λ k l. point.0 k d (omega arith) l) (λ l. point.1 n d (omega arith) l))

  -- no more pass at the front than stand before one that fails
  pub stops_at : (xs : List X) (i : ℕ) (x d : X) → i < length xs → x ≡ get_or xs i d → p x ≡ false → prefix_len p xs ≤ i
  stops_at [] i x d lt at fails = absurd (omega arith)
  stops_at (y ∷ xs) zero x d lt at fails = let count : prefix_len p (y ∷ xs) ≡ 0 = cond-false _ _ _ (ap p (sym at) ∙ fails) in omega (arith, count)
  stops_at (y ∷ xs) (suc i) x d lt at fails =
      elim (cases_Bool (p y)) [
        | inl e ↦
            let count : prefix_len p (y ∷ xs) ≡ suc (prefix_len p xs) = cond-true _ _ _ e ∙ one-add (prefix_len p xs) in
            let more = stops_at xs i x d (omega arith) at fails in
            omega (arith, count, more)
        | inr e ↦ let count : prefix_len p (y ∷ xs) ≡ 0 = cond-false _ _ _ e in omega (arith, count)
      ]

  -- those that pass at the front are all among the first n
  pub taken_front : (n : ℕ) (xs : List X) → prefix_len p xs ≤ n → prefix_len p (take n xs) ≡ prefix_len p xs
  taken_front zero xs le = omega arith
  taken_front (suc n) [] le = refl
  taken_front (suc n) (y ∷ xs) le =
      elim (cases_Bool (p y)) [
        | inl e ↦
            let count : prefix_len p (y ∷ xs) ≡ suc (prefix_len p xs) = cond-true _ _ _ e ∙ one-add (prefix_len p xs) in
            let taken : prefix_len p (y ∷ take n xs) ≡ suc (prefix_len p (take n xs)) = cond-true _ _ _ e ∙ one-add (prefix_len p (take n xs)) in
            taken ∙ ap suc (taken_front n xs (omega (arith, count))) ∙ sym count
        | inr e ↦ cond-false _ _ _ e ∙ sym (cond-false _ _ _ e)
      ]

  -- where the first that fails is found
  pub fails_at : (i : ℕ) (xs : List X) (n : ℕ) → n ≡ i + length xs → unwrap_or (position_from (λ x. not (p x)) i xs) n ≡ i + prefix_len p xs
  fails_at i [] n all = omega arith
  fails_at i (x ∷ xs) n all =
      let more = fails_at (i + 1) xs n (omega arith) in
      elim (cases_Bool (p x)) [ inl h ↦ simp h (more ∙ omega arith) | inr h ↦ simp h (omega arith) ]

  first_pass : (xs : List X) → AllByRecursion (λ x. p x ≡ true) (take (prefix_len p xs) xs)
  first_pass [] = tt
  first_pass (x ∷ xs) =
      elim (cases_Bool (p x)) [
        | inl e ↦
            let count : prefix_len p (x ∷ xs) ≡ suc (prefix_len p xs) = cond-true _ _ _ e ∙ one-add (prefix_len p xs) in
            subst (λ k. AllByRecursion (λ y. p y ≡ true) (take k (x ∷ xs))) (sym count) (e, first_pass xs)
        | inr e ↦
            let count : prefix_len p (x ∷ xs) ≡ 0 = cond-false _ _ _ e in
            subst (λ k. AllByRecursion (λ y. p y ≡ true) (take k (x ∷ xs))) (sym count) tt
      ]

-- the first entries are to one another what they were
pub taken_pairwise : {X : Type 0} (R : X → X → Type 0) (n : ℕ) (xs : List X) → Pairwise R xs → Pairwise R (take n xs)
taken_pairwise R zero xs a = tt
taken_pairwise R (suc n) [] a = tt
taken_pairwise R (suc n) (x ∷ xs) a = (All-take (R x) n xs a.0, taken_pairwise R n xs a.1)

module _ (s : ℕ) (d : Side) where
  past_on : (xs : List PostedLot) → Sorted lot_ahead xs → AllByRecursion (λ x. stands_before s d x ≡ false) xs → AllByRecursion (λ x. stands_on s d x ≡ false) (drop (prefix_len (stands_on s d) xs) xs)
  past_on [] a n = tt
  past_on (x ∷ xs) a n =
      elim (cases_Bool (stands_on s d x)) [
        | inl e ↦
            let count : prefix_len (stands_on s d) (x ∷ xs) ≡ suc (prefix_len (stands_on s d) xs) = cond-true _ _ _ e ∙ one-add (prefix_len (stands_on s d) xs) in
            subst (λ k. AllByRecursion (λ y. stands_on s d y ≡ false) (drop k (x ∷ xs))) (sym count) (past_on xs a.1 n.1)
        | inr e ↦
            let count : prefix_len (stands_on s d) (x ∷ xs) ≡ 0 = cond-false _ _ _ e in
            subst (λ k. AllByRecursion (λ y. stands_on s d y ≡ false) (drop k (x ∷ xs))) (sym count) (e, all_off s d x n.0 e xs a.0)
      ]

  module _ (xs : List PostedLot) (a : Sorted lot_ahead xs) (i : ℕ) (first : i ≡ prefix_len (stands_before s d) xs) where
    pub none_before : AllByRecursion (λ x. stands_before s d x ≡ false) (drop i xs)
    none_before = subst (λ k. AllByRecursion (λ x. stands_before s d x ≡ false) (drop k xs)) (sym first) (start_none s d xs a)

    pub on_parted : IsPartitionedBy (stands_on s d) (drop i xs)
    on_parted = parted (stands_on s d) (drop i xs) (on_first s d (drop i xs) (sorted_drop s d i xs a) none_before)

    pub stretch : (n : ℕ) → n ≡ prefix_len (stands_on s d) (drop i xs) → Stretch s d xs i (i + n)
    stretch n count =
        let low = prefix_len-le-length (stands_before s d) xs in
        let high = prefix_len-le-length (stands_on s d) (drop i xs) in
        let rest = length-drop i xs in
        let size : n ≡ i + n - i = omega arith in
        record {
          ordered = omega arith;
          within = omega arith;
          before = All-weaker (λ x. stands_before s d x ≡ true) (λ x. stands_on s d x ≡ false) (before_is_off s d) (take i xs)
              (subst (λ k. AllByRecursion (λ x. stands_before s d x ≡ true) (take k xs)) (sym first) (first_pass (stands_before s d) xs));
          own = subst (λ k. AllByRecursion (λ x. stands_on s d x ≡ true) (take k (drop i xs))) (sym count ∙ size) (first_pass (stands_on s d) (drop i xs));
          behind = subst (AllByRecursion (λ x. stands_on s d x ≡ false)) (ap (λ k. drop k (drop i xs)) (sym count) ∙ drop-drop n i xs) (past_on (drop i xs) (sorted_drop s d i xs a) none_before);
        }

  -- the lots of the side are those of the stretch
  pub stretch_lots : (xs : List PostedLot) (i j : ℕ) → Stretch s d xs i j → all_lots (take (j - i) (drop i xs)) ≡ lots_of xs s d
  stretch_lots xs i j z =
      let ordered = z.ordered in
      let own = take (j - i) (drop i xs) in
      let behind = drop (j - i) (drop i xs) in
      let end : i + (j - i) ≡ j = omega arith in
      let none : lots_of behind s d ≡ [] = ap (λ ys. lots_of ys s d) (drop-drop (j - i) i xs ∙ ap (λ k. drop k xs) end) ∙ none_on s d (drop j xs) z.behind in
      sym (ap (λ ys. lots_of ys s d) (sym (take-append-drop i xs))
      ∙ lots_append s d (take i xs) (drop i xs)
      ∙ ap (λ ls. ls ++ lots_of (drop i xs) s d) (none_on s d (take i xs) z.before)
      ∙ ap (λ ys. lots_of ys s d) (sym (take-append-drop (j - i) (drop i xs)))
      ∙ lots_append s d own behind
      ∙ ap (λ ls. lots_of own s d ++ ls) none
      ∙ append-nil (lots_of own s d)
      ∙ all_on s d own z.own)
