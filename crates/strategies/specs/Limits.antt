-- The numbers of the rules on strategies.
use Rattle.std.specs.Prelude.{ℕ}

-- a strategy has at least so many legs
abbrev pub fewest_legs : ℕ
fewest_legs = 2

-- and at most so many
abbrev pub most_legs : ℕ
most_legs = 4

-- a ratio is 1 to this
abbrev pub highest_ratio : ℕ
highest_ratio = 8

-- the largest ratio is at most so many times the smallest
abbrev pub ratio_spread : ℕ
ratio_spread = 3
