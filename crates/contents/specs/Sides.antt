-- The codes that stand for sides, each said once, and what is printed of sides.
use Rattle.std.specs.Prelude.{ℕ, cond, ◌==◌, List, codes}
use Rattle.contents.specs.declared.sides.OrderSide.{OrderSide}
use Rattle.contents.specs.declared.sides.OrderSide.TheVariants.{Buy, Sell}
use Rattle.contents.specs.declared.sides.LegSide.{LegSide}
use Rattle.contents.specs.declared.sides.LegSide.TheVariants.{Bought, Sold}

abbrev pub order_side_code : OrderSide → ℕ
order_side_code Buy = 0
order_side_code Sell = 1

abbrev pub leg_side_code : LegSide → ℕ
leg_side_code Bought = 0
leg_side_code Sold = 1

-- what one bit says, read the other way
abbrev pub order_side_coded : ℕ → OrderSide
order_side_coded n = cond (n == order_side_code Buy) Buy Sell

abbrev pub leg_side_coded : ℕ → LegSide
leg_side_coded n = cond (n == leg_side_code Bought) Bought Sold

abbrev pub side_text : OrderSide → List ℕ
side_text Buy = codes "buy"
side_text Sell = codes "sell"

abbrev pub sign_text : LegSide → List ℕ
sign_text Bought = codes "+"
sign_text Sold = codes "-"
