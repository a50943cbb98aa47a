-- What a post answers, and the lots that it leaves.
use Rattle.std.specs.Prelude.{ℕ, ◌+◌, Bool, cond, not, ◌||◌, List, length, Ok, Err, Result, ◌==◌, nat_le, nat_lt}
use Rattle.refusals.specs.declared.reason.Reason.TheVariants.{Memory, NoSeries, BadLot, LotsFull, LotNumbersSpent}
use Rattle.refusals.specs.declared.station.Station.TheVariants.{Opening, Post}
use Rattle.refusals.specs.declared.refusal.Refusal.{Refusal}
use Rattle.refusals.specs.Refusals.{refused_at}
use Rattle.simple.specs.declared.lot.Side.{Side}
use Rattle.simple.specs.declared.lot.Lot.{Lot}
use Rattle.simple.specs.Limits.{last_series, highest_price, lot_limit, side_limit}
use Rattle.simple.specs.Lots.{Lots, contracts, insert_lot, with_side}
use Rattle.ranked.specs.Ranking.{ranked_insert}
use Rattle.lots.specs.declared.posted.PostedLot.{PostedLot}
use Rattle.depth.specs.Limits.{lot_places, most_posted}
use Rattle.lots.specs.Rank.{lot_ahead}
use Rattle.depth.specs.Lots.{lots_of}

-- a lot that may not be posted on a side of so many contracts
abbrev pub unfit : Lot → ℕ → Bool
unfit l n =
    (l.price == 0) || (nat_lt highest_price l.price || (l.size == 0 || (nat_lt lot_limit l.size || nat_lt side_limit (n + l.size))))

-- the number of the lot l on a book of so many places, where xs stand and so many were posted, or why it is refused
abbrev pub post_answer : ℕ → List PostedLot → ℕ → ℕ → Side → Lot → Result ℕ Refusal
post_answer places xs posted s d l =
    cond (not (places == lot_places)) (Err (refused_at Opening Memory))
    (cond (nat_lt last_series s) (Err (refused_at Post NoSeries))
    (cond (unfit l (contracts (lots_of xs s d))) (Err (refused_at Post BadLot))
    (cond (nat_le lot_places (length xs)) (Err (refused_at Post LotsFull))
    (cond (nat_le most_posted posted) (Err (refused_at Post LotNumbersSpent))
    (Ok (posted + 1))))))

-- the lot as it stands on its side, under a number
abbrev pub posted_lot : ℕ → Side → Lot → ℕ → PostedLot
posted_lot s d l n = record { series = s; side = d; lot = l; number = n }

-- the lots once l stands among them in rank
abbrev pub with_posted : List PostedLot → ℕ → Side → Lot → ℕ → List PostedLot
with_posted xs s d l n = ranked_insert lot_ahead (posted_lot s d l n) xs

-- the lists once l stands on its side, behind all that precede it: those of a better price, or of its price and no worse class
abbrev pub with_lot : Lots → ℕ → Side → Lot → Lots
with_lot b s d l = with_side b s d (insert_lot d l (b s d))
