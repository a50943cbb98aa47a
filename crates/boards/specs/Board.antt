-- What a quote board means, and what a quote leaves on it.
use Rattle.std.specs.Prelude.{◌≡◌, ℕ, ◌-◌, Bool, true, false, cond, not, ◌||◌, List, [], ◌∷◌, ◌++◌, Ok, Err, Some, None, Option, filter, ◌==◌, nat_lt, slice_index_or}
use Rattle.std.specs.Option.{option_map, option_to_list}
use Rattle.refusals.specs.declared.reason.Reason.TheVariants.{NoSeries, BadLot}
use Rattle.refusals.specs.declared.station.Station.TheVariants.{Quote as quoting}
use Rattle.refusals.specs.Refusals.{refused_at}
use Rattle.simple.specs.declared.lot.Side.{Side}
use Rattle.simple.specs.declared.lot.Side.TheVariants.{Bid, Offer}
use Rattle.simple.specs.declared.lot.Lot.{Lot}
use Rattle.boards.specs.declared.quote.Quote.{Quote}
use Rattle.boards.specs.declared.quote.Quotes.{Quotes}
use Rattle.boards.specs.declared.quote.Sides.{Sides}
use Rattle.boards.specs.declared.board.QuoteBoard.{QuoteBoard}
use Rattle.simple.specs.Limits.{highest_price, lot_limit}
use Rattle.boards.specs.Limits.{last_quoted}
use Rattle.simple.specs.Lots.{Lots, lot_at, precedes, insert_lot, with_side}
use Rattle.simple.specs.Best.{customers}
use Rattle.simple.specs.Take.{Done, resized}

-- a quote of a maker or of a Priority Customer as a lot
abbrev pub quote_lot : Bool → Quote → Lot
quote_lot c q = lot_at q.price q.size c

-- a lot with no size shows none
abbrev pub standing : Lot → List Lot
standing l = cond (l.size == 0) [] (l ∷ [])

-- a Priority Customer's lot x stands ahead of a maker's lot y, if both stand
abbrev pub ahead_of : Side → Option Lot → Option Lot → Bool
ahead_of d (Some x) (Some y) = precedes d x y
ahead_of d (Some _) None = true
ahead_of d None _ = true

-- the two lots in rank
abbrev pub in_rank : Side → Option Lot → Option Lot → List Lot
in_rank d x y = cond (ahead_of d x y) (option_to_list x ++ option_to_list y) (option_to_list y ++ option_to_list x)

-- the lots of the two quotes of a side
abbrev pub side_lots : Side → Quotes → List Lot
side_lots d q = in_rank d (option_map (quote_lot true) q.customer) (option_map (quote_lot false) q.maker)

-- what is left of a lot once the quantity q is gone from it
abbrev pub lot_left : ℕ → Option Lot → Option Lot
lot_left q None = None
lot_left q (Some l) = cond (nat_lt q l.size) (Some (resized l (l.size - q))) None

-- and what is left of q for the lot behind it
abbrev pub size_left : ℕ → Option Lot → ℕ
size_left q None = q
size_left q (Some l) = q - l.size

-- neither a maker nor a Priority Customer quotes
abbrev pub no_quotes : Quotes
no_quotes = record { maker = None; customer = None }

abbrev pub no_sides : Sides
no_sides = record { bids = no_quotes; offers = no_quotes }

-- the quotes of a series' bids, or of its offers
abbrev pub quotes_of : Sides → Side → Quotes
quotes_of t Bid = t.bids
quotes_of t Offer = t.offers

abbrev pub quotes_at : QuoteBoard → ℕ → Side → Quotes
quotes_at b s d = quotes_of (slice_index_or b.series s no_sides) d

-- a board has no lot above its last series
abbrev pub board_lots : QuoteBoard → Lots
board_lots b s d = cond (nat_lt last_quoted s) [] (side_lots d (quotes_at b s d))

-- the lots of makers
abbrev pub makers : List Lot → List Lot
makers ls = filter (λ l. not l.customer) ls

-- the lots of one class: Priority Customers or makers
abbrev pub class_lots : Bool → List Lot → List Lot
class_lots true ls = customers ls
class_lots false ls = makers ls

-- the lot takes the place of what its class had; with no size it leaves none
abbrev pub requoted : Side → Lot → List Lot → List Lot
requoted d l ls = cond (l.size == 0) (class_lots (not l.customer) ls) (insert_lot d l (class_lots (not l.customer) ls))

-- the lists after a quote
abbrev pub quoted : Lots → ℕ → Side → Lot → Lots
quoted b s d l = with_side b s d (requoted d l (b s d))

-- the series, then the price and the size; the price also of a quote that is withdrawn
abbrev pub quote_answer : ℕ → Lot → Done
quote_answer s l =
    cond (nat_lt last_quoted s) (Err (refused_at quoting NoSeries))
    (cond (l.price == 0 || (nat_lt highest_price l.price || nat_lt lot_limit l.size)) (Err (refused_at quoting BadLot))
    (Ok tt))

-- what a quote sets: its side has it as the only lot of its class, or none where it has no size, and no other lot changes
pub record Requoted (b b' : Lots) (s : ℕ) (d : Side) (l : Lot) : Type 0 where
  pub own : class_lots l.customer (b' s d) ≡ standing l
  pub other : class_lots (not l.customer) (b' s d) ≡ class_lots (not l.customer) (b s d)
  pub elsewhere : (s' : ℕ) (d' : Side) → ((s' ≡ s) × (d' ≡ d) → ⊥) → b' s' d' ≡ b s' d'

-- refused, it sets nothing
abbrev pub Requotes : Lots → Lots → ℕ → Side → Lot → Done → Type 0
Requotes b b' s d l (Ok _) = Requoted b b' s d l
Requotes b b' s d l (Err _) = b' ≡ b
