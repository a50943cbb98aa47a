-- The numbers of the rules on markets and prices.
use Rattle.std.specs.Prelude.{ℕ}

-- the venue's wide-market limit: a leg whose offer is further above its bid is not open
abbrev pub widest_market : ℕ
widest_market = 500

-- an execution has a price for each of so many legs
abbrev pub leg_places : ℕ
leg_places = 4
