-- The numbers of the rules on orders and strategies.
use Rattle.std.specs.Prelude.{ℕ}

-- an engine has room for so many orders at rest
abbrev pub order_places : ℕ
order_places = 512

-- and for so many strategies
abbrev pub strategy_places : ℕ
strategy_places = 64

-- an order is for at most so many strategies
abbrev pub most_quantity : ℕ
most_quantity = 10000

-- a limit lies no further from 0 than this, which is also what the limit of a market order counts as
abbrev pub furthest_limit : ℕ
furthest_limit = 40000000

-- so many orders can be accepted
abbrev pub most_accepted : ℕ
most_accepted = 1000000
