-- The numbers of the rules on simple books.
use Rattle.std.specs.Prelude.{ℕ}

-- series are numbered from 0 to this
abbrev pub last_series : ℕ
last_series = 1023

-- so that there are this many
abbrev pub series_count : ℕ
series_count = 1024

-- a lot's price is 1 cent to this many
abbrev pub highest_price : ℕ
highest_price = 1000000

-- one side of one series holds at most so many contracts
abbrev pub side_limit : ℕ
side_limit = 1000000

-- a lot comes onto a book with at most so many contracts
abbrev pub lot_limit : ℕ
lot_limit = 500000
