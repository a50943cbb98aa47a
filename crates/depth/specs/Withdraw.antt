-- What a withdrawal answers, and the lots that it leaves.
use Rattle.std.specs.Prelude.{◌≡◌, ℕ, Bool, false, cond, ◌||◌, List, [], ◌∷◌, ◌++◌, Ok, Err, ◌==◌}
use Rattle.refusals.specs.declared.reason.Reason.TheVariants.{NoLot}
use Rattle.refusals.specs.declared.station.Station.TheVariants.{Withdraw}
use Rattle.refusals.specs.Refusals.{refused_at}
use Rattle.simple.specs.Lots.{with_side}
use Rattle.simple.specs.Take.{Done}
use Rattle.ranked.specs.Ranking.{without}
use Rattle.lots.specs.declared.posted.PostedLot.{PostedLot}
use Rattle.lots.specs.Rank.{lot_number}
use Rattle.depth.specs.Lots.{lots_of}

-- a lot of that number stands
abbrev pub stands : ℕ → List PostedLot → Bool
stands n [] = false
stands n (x ∷ xs) = x.number == n || stands n xs

abbrev pub withdraw_answer : ℕ → List PostedLot → Done
withdraw_answer n xs = cond (stands n xs) (Ok tt) (Err (refused_at Withdraw NoLot))

-- the lots of other numbers, in their places
abbrev pub without_lot : ℕ → List PostedLot → List PostedLot
without_lot n xs = without lot_number n xs

-- the lot of that number is gone: those before and behind it stand as they did, and only its side has changed
pub record Withdrawn (n : ℕ) (xs ys : List PostedLot) : Type 0 where
  pub gone : PostedLot
  pub front : List PostedLot
  pub back : List PostedLot
  pub number : gone.number ≡ n
  pub stood : xs ≡ front ++ gone ∷ back
  pub left : ys ≡ front ++ back
  pub side : lots_of xs gone.series gone.side ≡ lots_of front gone.series gone.side ++ gone.lot ∷ lots_of back gone.series gone.side
  pub lists : lots_of ys ≡ with_side (lots_of xs) gone.series gone.side (lots_of front gone.series gone.side ++ lots_of back gone.series gone.side)

-- what a withdrawal moves: that lot, or nothing where it was refused
abbrev pub Withdraws : ℕ → List PostedLot → List PostedLot → Done → Type 0
Withdraws n xs ys (Ok _) = Withdrawn n xs ys
Withdraws n xs ys (Err _) = ys ≡ xs
