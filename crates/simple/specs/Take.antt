-- What take answers, and the lists that it leaves.
use Rattle.std.specs.Prelude.{◌≡◌, ℕ, ◌+◌, ◌-◌, ◌<◌, ◌≤◌, cond, ◌||◌, List, [], ◌∷◌, ◌++◌, Ok, Err, Result, ◌==◌, nat_lt}
use Rattle.refusals.specs.declared.reason.Reason.TheVariants.{NoSeries, TooMany}
use Rattle.refusals.specs.declared.station.Station.TheVariants.{Take}
use Rattle.refusals.specs.declared.refusal.Refusal.{Refusal}
use Rattle.refusals.specs.Refusals.{refused_at}
use Rattle.simple.specs.declared.lot.Side.{Side}
use Rattle.simple.specs.declared.lot.Lot.{Lot}
use Rattle.simple.specs.Limits.{last_series}
use Rattle.simple.specs.Lots.{Lots, contracts, with_side}
use Rattle.simple.specs.Best.{best_of, best_size}

-- an answer that says no more than that the call was done, or why it was refused
abbrev pub Done : Type 0
Done = Result (Unit {0}) Refusal

-- what stands after an answer: what was done, or what was there
abbrev pub after : {S T E : Type 0} → Result T E → S → S → S
after (Ok _) done before = done
after (Err _) done before = before

-- the lot with another size
abbrev pub resized : Lot → ℕ → Lot
resized l n = record { price = l.price; size = n; customer = l.customer }

-- the quantity q removed from the front, lot by lot
abbrev pub take_from : ℕ → List Lot → List Lot
take_from q [] = []
take_from q (l ∷ ls) = cond (nat_lt q l.size) (resized l (l.size - q) ∷ ls) (take_from (q - l.size) ls)

-- the quantity removed from one side, and no other side touched
abbrev pub taken : Lots → ℕ → Side → ℕ → Lots
taken b s d q = with_side b s d (take_from q (b s d))

-- the series, then the quantity: some, and no more than the n contracts that stand at the best price
abbrev pub take_test : ℕ → ℕ → ℕ → Done
take_test s n q =
    cond (nat_lt last_series s) (Err (refused_at Take NoSeries))
    (cond (q == 0 || nat_lt n q) (Err (refused_at Take TooMany))
    (Ok tt))

abbrev pub take_answer : Lots → ℕ → Side → ℕ → Done
take_answer b s d q = take_test s (best_size (best_of (b s d))) q

-- less than its size is gone from the first lot, and the others stand
abbrev pub Reduced : ℕ → List Lot → List Lot → Type 0
Reduced n [] ls' = ls' ≡ []
Reduced n (l ∷ ls) ls' = (n < l.size) × (ls' ≡ resized l (l.size - n) ∷ ls)

-- the quantity is gone from the front: some lots whole, and the rest of it from the next one
pub record Shortened (q : ℕ) (ls ls' : List Lot) : Type 0 where
  pub gone : List Lot
  pub left : List Lot
  pub split : ls ≡ gone ++ left
  pub whole : contracts gone ≤ q
  pub rest : Reduced (q - contracts gone) left ls'

-- what a take moves: its quantity, from the front of its side, and nothing on any other side
pub record Moved (b b' : Lots) (s : ℕ) (d : Side) (q : ℕ) : Type 0 where
  pub quantity : contracts (b' s d) + q ≡ contracts (b s d)
  pub front : Shortened q (b s d) (b' s d)
  pub elsewhere : (s' : ℕ) (d' : Side) → ((s' ≡ s) × (d' ≡ d) → ⊥) → b' s' d' ≡ b s' d'

-- by every take that is accepted
abbrev pub TakeMoved : Lots → Type 0
TakeMoved b = (s : ℕ) (d : Side) (q : ℕ) → take_answer b s d q ≡ Ok tt → Moved b (taken b s d q) s d q
