-- What best answers of one side.
use Rattle.std.specs.Prelude.{◌≡◌, ℕ, ◌+◌, ◌≤◌, false, cond, List, [], ◌∷◌, Some, None, filter, Option, ◌==◌, nat_eq}
use Rattle.std.specs.List.{AllByRecursion}
use Rattle.simple.specs.declared.lot.Side.{Side}
use Rattle.simple.specs.declared.lot.Lot.{Lot}
use Rattle.simple.specs.declared.lot.Best.{Best}
use Rattle.simple.specs.Limits.{highest_price, side_limit}
use Rattle.simple.specs.Lots.{Lots, better, contracts}

-- the lots at a price
abbrev pub at_price : ℕ → List Lot → List Lot
at_price p ls = filter (λ l. nat_eq l.price p) ls

-- the lots of Priority Customers
abbrev pub customers : List Lot → List Lot
customers ls = filter (λ l. l.customer) ls

-- the first lot's price, the contracts at that price, and the Priority Customers' part of them
abbrev pub best_of : List Lot → Option Best
best_of [] = None
best_of (l ∷ ls) =
    let first = at_price l.price (l ∷ ls) in
    Some (record { price = l.price; size = contracts first; customer = contracts (customers first) })

-- how many contracts can be taken: none where there is no best
abbrev pub best_size : Option Best → ℕ
best_size None = 0
best_size (Some b) = b.size

-- the Priority Customers' part of a best
abbrev pub customer_part : Option Best → ℕ
customer_part None = 0
customer_part (Some b) = b.customer

-- the Priority Customers' part of a lot
abbrev pub customer_size : Lot → ℕ
customer_size l = cond l.customer l.size 0

-- what is best of a side that has one lot alone
abbrev pub best_alone : Lot → Best
best_alone l = record { price = l.price; size = l.size; customer = customer_size l }

-- what is best of a side once a lot follows
abbrev pub joined : Option Best → Lot → Option Best
joined None l = Some (best_alone l)
joined (Some b) l =
    Some (cond (l.price == b.price) (record { price = b.price; size = b.size + l.size; customer = b.customer + customer_size l }) b)

-- what a best tells of its side: the first lot has its price and no lot a better one, its size is what stands at
-- that price, at least one contract and no more than a side holds, and the Priority Customers have a part of it
pub record Told (d : Side) (ls : List Lot) (b : Best) : Type 0 where
  pub first : (l : Lot) × (rest : List Lot) × (ls ≡ l ∷ rest) × (b.price ≡ l.price)
  pub best : AllByRecursion (λ l. better d l.price b.price ≡ false) ls
  pub size : b.size ≡ contracts (at_price b.price ls)
  pub customer : b.customer ≡ contracts (customers (at_price b.price ls))
  pub least : 1 ≤ b.price
  pub most : b.price ≤ highest_price
  pub some : 1 ≤ b.size
  pub within : b.size ≤ side_limit
  pub part : b.customer ≤ b.size

-- nothing is told of a side only where it has no lot
abbrev pub Tells : Side → List Lot → Option Best → Type 0
Tells d ls None = ls ≡ []
Tells d ls (Some b) = Told d ls b

-- on every side of the book
abbrev pub BestTold : Lots → Type 0
BestTold b = (s : ℕ) (d : Side) → Tells d (b s d) (best_of (b s d))
