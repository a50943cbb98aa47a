-- The numbers of the rules on depth books.
use Rattle.std.specs.Prelude.{ℕ}

-- a depth book stands in memory of so many places, one for each lot
abbrev pub lot_places : ℕ
lot_places = 1024

-- so many lots are posted to one book at most, in all its life
abbrev pub most_posted : ℕ
most_posted = 1000000
