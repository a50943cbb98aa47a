-- What the edits of a ranked list keep. xs are its entries before an edit, and ys after it.
-- By `IsPermutation` two lists have the same entries, each as often, in any order; `option_to_list r` is the entry in r, or none.
use Rattle.std.specs.Prelude.{◌≡◌, ℕ, Bool, cond, List, ◌∷◌, ◌++◌, is_some, Some, Option}
use Rattle.std.specs.Option.{option_to_list}
use Rattle.std.specs.List.Sorted.{IsPermutation}
use Rattle.ranked.specs.Ranking.{parted_by, without, Sorted, Distinct, Absent, Level}

-- e was put in, or at r false there was no room
pub record LawfulInsertion {X : Type 0} (ahead : X → X → Bool) (serial : X → ℕ) (e : X) (xs : List X) (r : Bool) (ys : List X) : Type 0 where
  -- in a sorted list e stands behind every entry that is ahead of it, and before the rest
  pub placed : Sorted ahead xs → ys ≡ cond r (parted_by ahead e xs) xs
  -- a sorted list stays sorted, if no entry had the number of e
  pub sorted : Absent serial (serial e) xs → Sorted ahead xs → Sorted ahead ys
  -- distinct numbers stay distinct, if no entry had the number of e
  pub distinct : Absent serial (serial e) xs → Distinct serial xs → Distinct serial ys
  -- e is added, and the entries are kept
  pub keeps : IsPermutation (cond r (e ∷ xs) xs) ys

-- the entry in r was taken out, or there was none
pub record LawfulRemoval {X : Type 0} (ahead : X → X → Bool) (serial : X → ℕ) (xs : List X) (r : Option X) (ys : List X) : Type 0 where
  -- of distinct numbers just that of the entry is gone
  pub others : (x : X) → r ≡ Some x → Distinct serial xs → ys ≡ without serial (serial x) xs
  -- a sorted list stays sorted
  pub sorted : Sorted ahead xs → Sorted ahead ys
  -- distinct numbers stay distinct
  pub distinct : Distinct serial xs → Distinct serial ys
  -- the other entries are kept
  pub keeps : IsPermutation (option_to_list r ++ ys) xs

-- the entries of a range of places, those in out, were taken out
pub record LawfulRangeRemoval {X : Type 0} (ahead : X → X → Bool) (serial : X → ℕ) (xs out ys : List X) : Type 0 where
  -- a sorted list stays sorted
  pub sorted : Sorted ahead xs → Sorted ahead ys
  -- distinct numbers stay distinct
  pub distinct : Distinct serial xs → Distinct serial ys
  -- the other entries are kept
  pub keeps : IsPermutation (out ++ ys) xs

-- e was put in the place of the entry in r, or there was none
pub record LawfulReplacement {X : Type 0} (ahead : X → X → Bool) (serial : X → ℕ) (e : X) (xs : List X) (r : Option X) (ys : List X) : Type 0 where
  -- a sorted list stays sorted, if e ranks as the entry did
  pub sorted : ((x : X) → r ≡ Some x → Level ahead x e) → Sorted ahead xs → Sorted ahead ys
  -- distinct numbers stay distinct, if e has the number of the entry
  pub distinct : ((x : X) → r ≡ Some x → serial x ≡ serial e) → Distinct serial xs → Distinct serial ys
  -- the other entries are kept
  pub keeps : IsPermutation (option_to_list r ++ ys) (cond (is_some r) (e ∷ xs) xs)
