-- What a simple book means: for each series and each side a list of lots, the best first.
use Rattle.std.specs.Prelude.{◌≡◌, ℕ, ◌+◌, ◌<◌, ◌≤◌, Bool, true, false, cond, not, ◌&&◌, ◌||◌, List, [], ◌∷◌, ◌==◌, nat_lt}
use Rattle.std.specs.List.{AllByRecursion}
use Rattle.simple.specs.declared.lot.Side.{Side}
use Rattle.simple.specs.declared.lot.Side.TheVariants.{Bid, Offer}
use Rattle.simple.specs.declared.lot.Lot.{Lot}
use Rattle.simple.specs.Limits.{last_series, highest_price, side_limit}

abbrev pub Lots : Type 0
Lots = ℕ → Side → List Lot

-- a lot by its price, its size and whether a Priority Customer owns it
abbrev pub lot_at : ℕ → ℕ → Bool → Lot
lot_at p n c = record { price = p; size = n; customer = c }

-- no lot on any side
abbrev pub empty_book : Lots
empty_book s d = []

-- a price is better than another: a bid that is higher, an offer that is lower
abbrev pub better : Side → ℕ → ℕ → Bool
better Bid p q = nat_lt q p
better Offer p q = nat_lt p q

-- the ranking within a side: x may stand ahead of y
-- its price is better, or it is the same and no maker stands ahead of a Priority Customer
abbrev pub precedes : Side → Lot → Lot → Bool
precedes d x y = better d x.price y.price || (x.price == y.price && (x.customer || not y.customer))

-- a lot that may stand on a book
pub record Sound (l : Lot) : Type 0 where
  pub least : 1 ≤ l.price
  pub most : l.price ≤ highest_price
  pub some : 1 ≤ l.size

-- each lot is sound, and precedes every lot behind it
abbrev pub Ranked : Side → List Lot → Type 0
Ranked d [] = Unit {0}
Ranked d (l ∷ ls) = Sound l × AllByRecursion (λ m. precedes d l m ≡ true) ls × Ranked d ls

-- how many contracts the lots have
abbrev pub contracts : List Lot → ℕ
contracts [] = 0
contracts (l ∷ ls) = l.size + contracts ls

-- the lot put behind all that precede it
abbrev pub insert_lot : Side → Lot → List Lot → List Lot
insert_lot d l [] = l ∷ []
insert_lot d l (m ∷ ms) = cond (precedes d m l) (m ∷ insert_lot d l ms) (l ∷ m ∷ ms)

-- the lists that a simple book can have
pub record Lawful (b : Lots) : Type 0 where
  pub ranked : (s : ℕ) (d : Side) → Ranked d (b s d)
  pub within : (s : ℕ) (d : Side) → contracts (b s d) ≤ side_limit
  pub listed : (s : ℕ) (d : Side) → last_series < s → b s d ≡ []

abbrev pub same_side : Side → Side → Bool
same_side Bid Bid = true
same_side Bid Offer = false
same_side Offer Bid = false
same_side Offer Offer = true

-- the lists with one side replaced
abbrev pub with_side : Lots → ℕ → Side → List Lot → Lots
with_side b s d ls = λ s' d'. cond (s' == s && same_side d' d) ls (b s' d')
