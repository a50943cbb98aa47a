-- The fields of a message: where they stand, and the greatest value that each may have in each kind.
use Rattle.std.specs.Prelude.{ℕ, zero, suc, ◌+◌, ◌-◌, ◌^◌, ◌<◌, Bool, cond, List, [], ◌∷◌, ◌++◌, nat_lt}
use Rattle.messages.specs.declared.codes.Kind.{Kind}
use Rattle.messages.specs.declared.codes.Kind.TheVariants.{Place, Cancel, Evaluate, Define}
use Rattle.contents.specs.declared.time.TimeInForce.TheVariants.{ImmediateOrCancel}
use Rattle.messages.specs.declared.fields.OrderFields.{OrderFields}
use Rattle.contents.specs.Times.{time_code}

-- a field: its first bit, its width, the greatest value that it may have, and the bit that is answered when its value is greater
pub record Field : Type 0 where
  pub place : ℕ
  pub width : ℕ
  pub greatest : ℕ
  pub answered : ℕ

-- fields whose greatest values have as many bits as they have
abbrev pub Capable : List Field → Type 0
Capable [] = Unit {0}
Capable (f ∷ fs) = (f.greatest < 2 ^ f.width) × Capable fs

abbrev pub reported_at : ℕ → ℕ → ℕ → ℕ → Field
reported_at answered place width greatest = record { place = place; width = width; greatest = greatest; answered = answered }

-- most fields answer their own first bit
abbrev pub up_to : ℕ → ℕ → ℕ → Field
up_to place width greatest = reported_at place place width greatest

-- the greatest number of so many bits
abbrev pub all_ones : ℕ → ℕ
all_ones width = 2 ^ width - 1

-- unused bits are fields of one bit each, so that the first one that is set is answered
unfoldable pub unused_bits : ℕ → ℕ → List Field
unused_bits place zero = []
unused_bits place (suc count) = up_to place 1 0 ∷ unused_bits (suc place) count

-- every message begins with its edition and its kind
abbrev pub head_layout : List Field
head_layout = up_to 0 4 (all_ones 4) ∷ up_to 4 4 (all_ones 4) ∷ []

-- placing, cancelling and evaluating share their fields, each with the greatest value that the kind gives it
abbrev pub order_layout : OrderFields → List Field
order_layout greatest =
    up_to 8 8 greatest.strategy
    ∷ up_to 16 1 greatest.side
    ∷ up_to 17 1 greatest.market
    ∷ up_to 18 2 greatest.time_in_force
    ∷ up_to 20 32 greatest.limit
    ∷ up_to 52 16 greatest.quantity
    ∷ up_to 68 32 greatest.number
    ∷ unused_bits 100 12

-- placing uses all but the number
abbrev pub place_greatest : OrderFields
place_greatest = record { strategy = all_ones 8; side = all_ones 1; market = all_ones 1; time_in_force = time_code ImmediateOrCancel; limit = all_ones 32; quantity = all_ones 16; number = 0 }

-- cancelling uses only the number, evaluating only the strategy; a field that is not used is 0
abbrev pub cancel_greatest : OrderFields
cancel_greatest = record { strategy = 0; side = 0; market = 0; time_in_force = 0; limit = 0; quantity = 0; number = all_ones 32 }

abbrev pub evaluate_greatest : OrderFields
evaluate_greatest = record { strategy = all_ones 8; side = 0; market = 0; time_in_force = 0; limit = 0; quantity = 0; number = 0 }

-- a part of a leg whose first bit is `leg`: any value where the leg is within the count, else 0; it answers the leg's first bit
abbrev pub leg_part : Bool → ℕ → ℕ → ℕ → Field
leg_part within leg place width = reported_at leg place width (cond within (all_ones width) 0)

-- a leg has a series, a side and a ratio
abbrev pub leg_layout : Bool → ℕ → List Field
leg_layout within leg = leg_part within leg leg 10 ∷ leg_part within leg (leg + 10) 1 ∷ leg_part within leg (leg + 11) 4 ∷ []

-- a definition has its leg count and four legs
abbrev pub define_layout : ℕ → List Field
define_layout count =
    up_to 8 4 (all_ones 4)
    ∷ (leg_layout (nat_lt 0 count) 12 ++ (leg_layout (nat_lt 1 count) 27 ++ (leg_layout (nat_lt 2 count) 42 ++ (leg_layout (nat_lt 3 count) 57 ++ unused_bits 72 40))))

-- the fields of each kind behind the head; those of a definition depend on its leg count
abbrev pub layout : Kind → ℕ → List Field
layout Place count = order_layout place_greatest
layout Cancel count = order_layout cancel_greatest
layout Evaluate count = order_layout evaluate_greatest
layout Define count = define_layout count
