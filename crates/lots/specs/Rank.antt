-- The rank of the lots on a depth book: by series, bids before offers, the better price, Priority Customers first, the lower number.
use Rattle.std.specs.Prelude.{Bool, true, false, List, [], ◌∷◌, ℕ, ℤ, pos}
use Rattle.ranked.specs.Lex.{by_keys, first_if, better}
use Rattle.simple.specs.declared.lot.Side.{Side}
use Rattle.simple.specs.declared.lot.Side.TheVariants.{Bid, Offer}
use Rattle.lots.specs.declared.posted.PostedLot.{PostedLot}

abbrev pub is_bid : Side → Bool
is_bid Bid = true
is_bid Offer = false

abbrev pub lot_keys : List (PostedLot → ℤ)
lot_keys =
    (λ x. pos x.series)
    ∷ (λ x. first_if (is_bid x.side))
    ∷ (λ x. better (is_bid x.side) (pos x.lot.price))
    ∷ (λ x. first_if x.lot.customer)
    ∷ []

abbrev pub lot_number : PostedLot → ℕ
lot_number x = x.number

-- x stands before y in rank
abbrev pub lot_ahead : PostedLot → PostedLot → Bool
lot_ahead x y = by_keys lot_keys lot_number x y
