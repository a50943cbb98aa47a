-- What is known of the markets of a free strategy, as one test.
use Rattle.std.specs.Prelude.{◌≡◌, Bool, true, ◌&&◌, List, [], ◌∷◌, length, nat_le}
use Rattle.simple.specs.Limits.{highest_price}
use Rattle.strategies.specs.Limits.{highest_ratio}
use Rattle.pricing.specs.declared.market.LegMarket.{LegMarket}
use Rattle.pricing.specs.Limits.{leg_places}
use Rattle.pricing.specs.Legs.{is_open}

-- a leg that is open, with a ratio and prices that a strategy and a book can have
abbrev pub leg_sound : LegMarket → Bool
leg_sound m = is_open m && ((nat_le 1 m.ratio && nat_le m.ratio highest_ratio) && nat_le m.offer.price highest_price)

abbrev pub legs_sound : List LegMarket → Bool
legs_sound [] = true
legs_sound (m ∷ ms) = leg_sound m && legs_sound ms

abbrev pub Sound : List LegMarket → Type 0
Sound ms = (nat_le (length ms) leg_places && legs_sound ms) ≡ true
