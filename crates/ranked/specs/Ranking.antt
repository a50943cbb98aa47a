-- Lists of entries in rank. `ahead x y` says that x stands before y, and `serial x` is the number of x.
use Rattle.std.specs.Prelude.{◌≡◌, ℕ, ◌-◌, suc, Bool, true, cond, not, List, [], ◌∷◌, ◌++◌, Some, None, filter, Option, ◌==◌, nat_lt, take, drop, ◌≢◌}
use Rattle.std.specs.List.{slice_get, prefix_len, AllByRecursion}
use Rattle.std.specs.Option.{option_map}

-- the place of the first entry that has the number
abbrev pub place_with : {X : Type 0} → (X → ℕ) → ℕ → List X → Option ℕ
place_with serial n [] = None
place_with serial n (x ∷ xs) = cond (serial x == n) (Some 0) (option_map suc (place_with serial n xs))

-- where e belongs: behind the entries at the front that are ahead of it
abbrev pub place_of : {X : Type 0} → (X → X → Bool) → X → List X → ℕ
place_of ahead e xs = prefix_len (λ x. ahead x e) xs

-- e is put in where it belongs, before the first entry that is not ahead of it
abbrev pub ranked_insert : {X : Type 0} → (X → X → Bool) → X → List X → List X
ranked_insert ahead e [] = e ∷ []
ranked_insert ahead e (x ∷ xs) = cond (ahead x e) (x ∷ ranked_insert ahead e xs) (e ∷ x ∷ xs)

-- e stands behind every entry that is ahead of it, and before the rest
abbrev pub parted_by : {X : Type 0} → (X → X → Bool) → X → List X → List X
parted_by ahead e xs = filter (λ x. ahead x e) xs ++ e ∷ filter (λ x. not (ahead x e)) xs

-- the entries that do not have the number
abbrev pub without : {X : Type 0} → (X → ℕ) → ℕ → List X → List X
without serial n xs = filter (λ x. not (serial x == n)) xs

-- the entries from one place up to another
abbrev pub range_of : {X : Type 0} → ℕ → ℕ → List X → List X
range_of first end xs = take (end - first) (drop first xs)

-- the entries but those from one place up to another
abbrev pub without_range : {X : Type 0} → ℕ → ℕ → List X → List X
without_range first end xs = cond (nat_lt first end) (take first xs ++ drop end xs) xs

-- each entry is so related to every later one
abbrev pub Pairwise : {X : Type 0} → (X → X → Type 0) → List X → Type 0
Pairwise R [] = Unit {0}
Pairwise R (x ∷ xs) = AllByRecursion (R x) xs × Pairwise R xs

-- each entry is ahead of every later one
abbrev pub Sorted : {X : Type 0} → (X → X → Bool) → List X → Type 0
Sorted ahead xs = Pairwise (λ x y. ahead x y ≡ true) xs

-- no two entries have one number
abbrev pub Distinct : {X : Type 0} → (X → ℕ) → List X → Type 0
Distinct serial xs = Pairwise (λ x y. serial x ≢ serial y) xs

-- no entry has the number
abbrev pub Absent : {X : Type 0} → (X → ℕ) → ℕ → List X → Type 0
Absent serial n xs = AllByRecursion (λ x. serial x ≢ n) xs

-- an entry that has the number stands at the place
abbrev pub Standing : {X : Type 0} → (X → ℕ) → ℕ → List X → ℕ → Type 0
Standing {X} serial n xs i = (x : X) × (slice_get xs i ≡ Some x) × (serial x ≡ n)

-- x and y rank alike: whatever is behind or ahead of one is so of the other
abbrev pub Level : {X : Type 0} → (X → X → Bool) → X → X → Type 0
Level {X} ahead x y = ((z : X) → ahead x z ≡ ahead y z) × ((z : X) → ahead z x ≡ ahead z y)
