-- A quantity taken from a side whose lots stand from one place up to another.
use Rattle.std.proofs.Common.{◌≡◌, ℕ, zero, suc, ◌+◌, ◌-◌, ◌<◌, ◌≤◌, true, false, List, [], ◌∷◌, ◌++◌, length, get_or, take, drop, set, Some, Option, sym, refl, ap, ◌∙◌, subst, add-one, arith}
use Rattle.std.specs.Prelude.{IfSome, MatchOption}
use Rattle.std.specs.List.{slice_get, AllByRecursion}
use Rattle.std.proofs.ByRecursion.{All-get_or}
use Rattle.std.proofs.lemmas.Option.{slice_get-get_or}
use Rattle.std.proofs.lemmas.List.{take-append-drop, drop-drop, drop-take, get_or-take, get_or-drop, drop-set, take-set-le, length-drop, length-take-le}
use Rattle.std.proofs.lemmas.Bool.{cond-true, cond-false, lt-ltb, le-ltb}
use Rattle.simple.specs.declared.lot.Side.{Side}
use Rattle.simple.specs.Lots.{contracts}
use Rattle.ranked.specs.Ranking.{without_range}
use Rattle.lots.specs.declared.posted.PostedLot.{PostedLot}
use Rattle.depth.specs.Lots.{stands_on, all_lots}
use Rattle.depth.specs.Running.{Stretch}
use Rattle.depth.specs.Take.{reduced, take_lots}
use Rattle.depth.proofs.Sides.{no_lot}
use Rattle.depth.proofs.Takes.{unchanged, drop_nth}

-- one lot more
pub contracts_more : (xs : List PostedLot) (i : ℕ) (e : PostedLot) → i < length xs → contracts (all_lots (take (i + 1) xs)) ≡ contracts (all_lots (take i xs)) + (get_or xs i e).lot.size
contracts_more xs i e lt = ap (λ k. contracts (all_lots (take k xs))) (add-one i) ∙ go xs i lt
  where
    go : (xs : List PostedLot) (i : ℕ) → i < length xs → contracts (all_lots (take (suc i) xs)) ≡ contracts (all_lots (take i xs)) + (get_or xs i e).lot.size
    go [] i lt = absurd (omega arith)
    go (x ∷ xs) zero lt = omega arith
    go (x ∷ xs) (suc i) lt = let more = go xs i (omega arith) in omega arith

module _ (s : ℕ) (d : Side) where
  off_front : (q : ℕ) (xs ys : List PostedLot) → AllByRecursion (λ x. stands_on s d x ≡ false) xs → take_lots s d q (xs ++ ys) ≡ xs ++ take_lots s d q ys
  off_front q [] ys a = refl
  off_front q (x ∷ xs) ys a = cond-false _ _ _ a.0 ∙ ap (λ zs. x ∷ zs) (off_front q xs ys a.1)

  -- the first k lots go whole
  gone_front : (k q left : ℕ) (xs ys : List PostedLot) → AllByRecursion (λ x. stands_on s d x ≡ true) xs → contracts (all_lots (take k xs)) + left ≡ q → k ≤ length xs → take_lots s d q (xs ++ ys) ≡ take_lots s d left (drop k xs ++ ys)
  gone_front zero q left xs ys a sum le = let same : q ≡ left = omega arith in ap (λ n. take_lots s d n (xs ++ ys)) same
  gone_front (suc k) q left [] ys a sum le = absurd (omega arith)
  gone_front (suc k) q left (x ∷ xs) ys a sum le =
      cond-true _ _ _ a.0 ∙ cond-false _ _ _ (le-ltb q x.lot.size (omega arith)) ∙ gone_front k (q - x.lot.size) left xs ys a.1 (omega arith) (omega arith)

  module _ (xs : List PostedLot) (i j : ℕ) (z : Stretch s d xs i j) (q k left : ℕ) (sum : contracts (all_lots (take k (take (j - i) (drop i xs)))) + left ≡ q) (le : k ≤ j - i) where
    -- what is left of the quantity comes from the lots behind those that go whole
    rest_taken : take_lots s d q xs ≡ take i xs ++ take_lots s d left (drop (i + k) xs)
    rest_taken =
        let own = take (j - i) (drop i xs) in
        let behind = drop (j - i) (drop i xs) in
        let within = z.within in
        let ordered = z.ordered in
        let long : length own ≡ j - i = length-take-le (j - i) (drop i xs) (omega (arith, length-drop i xs)) in
        let all : j - i ≡ k + (j - i - k) = omega arith in
        let more : drop k own ≡ take (j - i - k) (drop k (drop i xs)) = ap (λ n. drop k (take n (drop i xs))) all ∙ drop-take k (j - i - k) (drop i xs) in
        let back : behind ≡ drop (j - i - k) (drop k (drop i xs)) = ap (λ n. drop n (drop i xs)) all ∙ sym (drop-drop (j - i - k) k (drop i xs)) in
        let joined : drop k own ++ behind ≡ drop (i + k) xs =
        ap (λ ys. ys ++ behind) more ∙ ap (λ ys. take (j - i - k) (drop k (drop i xs)) ++ ys) back ∙ take-append-drop (j - i - k) (drop k (drop i xs)) ∙ drop-drop k i xs in
        ap (take_lots s d q) (sym (take-append-drop i xs))
        ∙ off_front q (take i xs) (drop i xs) z.before
        ∙ ap (λ ys. take i xs ++ take_lots s d q ys) (sym (take-append-drop (j - i) (drop i xs)))
        ∙ ap (λ ys. take i xs ++ ys) (gone_front k q left own behind z.own sum (omega arith) ∙ ap (take_lots s d left) joined)

    -- all lots of the side go whole, and nothing is left of it
    pub all_taken_whole : i + k ≡ j → take i xs ++ drop (i + k) xs ≡ take_lots s d q xs
    all_taken_whole end =
        sym (rest_taken ∙ ap (λ n. take i xs ++ take_lots s d left (drop n xs)) end ∙ ap (λ ys. take i xs ++ ys) (unchanged s d left (drop j xs) z.behind) ∙ ap (λ n. take i xs ++ drop n xs) (sym end))

    -- or the next lot is reduced
    pub next_reduced : (x : PostedLot) → Some x ≡ slice_get xs (i + k) → stands_on s d x ≡ true → left < x.lot.size → i + k < length xs
        → (ys : List PostedLot) → ys ≡ set xs (i + k) (reduced x (x.lot.size - left)) → take i ys ++ drop (i + k) ys ≡ take_lots s d q xs
    next_reduced x at on lt inside ys is =
        let y = reduced x (x.lot.size - left) in
        let front : take i ys ≡ take i xs = ap (take i) is ∙ take-set-le i xs (i + k) y (omega arith) in
        let back : drop (i + k) ys ≡ y ∷ drop (i + k + 1) xs = ap (drop (i + k)) is ∙ drop-set xs (i + k) y inside in
        let here : take_lots s d left (drop (i + k) xs) ≡ y ∷ drop (i + k + 1) xs =
        ap (take_lots s d left) (drop_nth xs (i + k) x at) ∙ cond-true _ _ _ on ∙ cond-true _ _ _ (lt-ltb left x.lot.size lt) in
        sym (rest_taken ∙ ap (λ zs. take i xs ++ zs) (here ∙ sym back) ∙ ap (λ zs. zs ++ drop (i + k) ys) (sym front))

    -- as what is done at its place says
    pub taken_at : IfSome (slice_get (take (j - i) (drop i xs)) k) (λ x. left < x.lot.size) → i + k < j → (ys : List PostedLot)
        → MatchOption (slice_get xs (i + k)) (ys ≡ xs) (λ x. ys ≡ set xs (i + k) (reduced x (x.lot.size - left))) → take i ys ++ drop (i + k) ys ≡ take_lots s d q xs
    taken_at more lt ys done =
        let own = take (j - i) (drop i xs) in
        let within = z.within in
        let long : length own ≡ j - i = length-take-le (j - i) (drop i xs) (omega (arith, length-drop i xs)) in
        let x = get_or xs (i + k) no_lot in
        let at : slice_get xs (i + k) ≡ Some x = slice_get-get_or xs (i + k) no_lot (omega arith) in
        let same : get_or own k no_lot ≡ x = get_or-take (j - i) (drop i xs) k no_lot (omega arith) ∙ get_or-drop i xs k no_lot in
        let mine : slice_get own k ≡ Some x = slice_get-get_or own k no_lot (omega arith) ∙ ap Some same in
        next_reduced x (sym at) (subst (λ (y : PostedLot). stands_on s d y ≡ true) same (All-get_or (λ y. stands_on s d y ≡ true) own k no_lot (omega arith) z.own))
        (subst (λ (o : Option PostedLot). IfSome o (λ y. left < y.lot.size)) mine more) (omega arith) ys
        (subst (λ (o : Option PostedLot). MatchOption o (ys ≡ xs) (λ y. ys ≡ set xs (i + k) (reduced y (y.lot.size - left)))) at done)

-- the range that is taken out ends no further front than it begins
pub range_is : {X : Type 0} (xs : List X) (i k : ℕ) → without_range i (i + k) xs ≡ take i xs ++ drop (i + k) xs
range_is xs i zero = let none : i + 0 ≡ i = omega arith in
    cond-false _ _ _ (le-ltb i (i + 0) (omega arith)) ∙ sym (take-append-drop i xs) ∙ ap (λ n. take i xs ++ drop n xs) (sym none)
range_is xs i (suc k) = cond-true _ _ _ (lt-ltb i (i + suc k) (omega arith))
