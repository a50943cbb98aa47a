-- What a copy within the slots leaves that moves a part of the entries.
use Rattle.std.proofs.Common.{◌≡◌, ℕ, ◌+◌, ◌-◌, ◌<◌, ◌≤◌, List, [], ◌∷◌, ◌++◌, length, take, drop, set, sym, ap, ◌∙◌, add-one, arith}
use Rattle.std.specs.List.{insert, remove, copy_within}
use Rattle.std.proofs.lemmas.List.{take-take, drop-take, length-drop, length-take-le, take_more_set, set-append_left, append_assoc}
use Rattle.std.proofs.lemmas.List.Edits.{take-paste}
use lib.Seq.{take-set-lt}

module _ {X : Type 0} (s : List X) (n i : ℕ) where
  -- the first n slots before a place
  front : i ≤ n → take i (take n s) ≡ take i s
  front le = take-take i n s le

  -- and from there on
  back : i ≤ n → drop i (take n s) ≡ take (n - i) (drop i s)
  back le = let all : n ≡ i + (n - i) = omega arith in ap (λ k. drop i (take k s)) all ∙ drop-take i (n - i) s

  -- the entries from i on stand one slot higher, and e is put at i
  pub shifted_up : (e : X) → i ≤ n → n < length s → take (n + 1) (set (copy_within s i n (i + 1)) i e) ≡ insert (take n s) i e
  shifted_up e le lt =
      let moved = copy_within s i n (i + 1) in
      let rest = take (n - i) (drop i s) in
      let all : n + 1 ≡ i + 1 + (n - i) = omega arith in
      let long : length (take (i + 1) s) ≡ i + 1 = length-take-le (i + 1) s (omega arith) in
      take-set-lt (n + 1) moved i e (omega arith)
      ∙ ap (λ k. set (take k moved) i e) all
      ∙ ap (λ xs. set xs i e) (take-paste s (i + 1) (drop i s) (n - i) (omega arith) (omega (arith, length-drop i s)))
      ∙ set-append_left (take (i + 1) s) rest i e (omega arith)
      ∙ ap (λ xs. xs ++ rest) (sym (take-set-lt (i + 1) s i e (omega arith)) ∙ take_more_set s i e (omega arith))
      ∙ append_assoc (take i s) (e ∷ []) rest
      ∙ sym (ap (λ xs. xs ++ e ∷ drop i (take n s)) (front le) ∙ ap (λ xs. take i s ++ e ∷ xs) (back le))

-- the entries from one place up to another are closed over
pub closed_over : {X : Type 0} (s : List X) (n i j : ℕ) → i ≤ j → j ≤ n → n ≤ length s → take (i + (n - j)) (copy_within s j n i) ≡ take i (take n s) ++ drop j (take n s)
closed_over s n i j le within fits =
    take-paste s i (drop j s) (n - j) (omega arith) (omega (arith, length-drop j s))
    ∙ sym (ap (λ xs. xs ++ drop j (take n s)) (front s n i (omega arith)) ∙ ap (λ xs. take i s ++ xs) (back s n j within))

-- the entries behind i stand one slot lower
pub shifted_down : {X : Type 0} (s : List X) (n i : ℕ) → i < n → n ≤ length s → take (n - 1) (copy_within s (i + 1) n i) ≡ remove (take n s) i
shifted_down s n i lt fits =
    let all : n - 1 ≡ i + (n - (i + 1)) = omega arith in
    ap (λ k. take k (copy_within s (i + 1) n i)) all
    ∙ closed_over s n i (i + 1) (omega arith) (omega arith) fits
    ∙ ap (λ k. take i (take n s) ++ drop k (take n s)) (add-one i)
