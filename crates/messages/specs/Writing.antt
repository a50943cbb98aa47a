-- The bytes that say a message, in edition 2.
use Rattle.std.specs.Prelude.{◌≡◌, ℕ, ◌+◌, ◌-◌, ◌*◌, ◌^◌, Bool, true, cond, ◌&&◌, List, [], ◌∷◌, ◌++◌, length, replicate, Ok, Err, Result, ◌==◌, nat_le, slice_index_or}
use Rattle.messages.specs.declared.codes.Kind as kinds
use Rattle.messages.specs.declared.codes.Kind.TheVariants as kind
use Rattle.contents.specs.declared.sides.LegSide.TheVariants.{Bought}
use Rattle.contents.specs.declared.fault.WriterFault.{WriterFault}
use Rattle.messages.specs.declared.fields.OrderFields.{OrderFields}
use Rattle.contents.specs.declared.edition.Edition.TheVariants.{Signed}
use Rattle.contents.specs.declared.message.LegFields.{LegFields}
use Rattle.contents.specs.declared.message.Message.{Message}
use Rattle.contents.specs.declared.message.Message.TheVariants.{Place, Cancel, Evaluate, Define}
use Rattle.messages.specs.Bits.{message_bytes, message_bits, bytes_of}
use Rattle.contents.specs.Editions.{edition_code}
use Rattle.contents.specs.Sides.{order_side_code, leg_side_code}
use Rattle.messages.specs.Codes.{kind_code, mark_code}
use Rattle.contents.specs.Faults.{writer_fault}
use Rattle.messages.specs.Layout.{Field, head_layout, layout}
use Rattle.messages.specs.Limits.{limit_fits, limit_bits}

abbrev pub kind_of : Message → kinds.Kind
kind_of (Place order) = kind.Place
kind_of (Cancel number) = kind.Cancel
kind_of (Evaluate strategy) = kind.Evaluate
kind_of (Define row) = kind.Define

-- the leg count of a definition; other messages have none
abbrev pub count_of : Message → ℕ
count_of (Place order) = 0
count_of (Cancel number) = 0
count_of (Evaluate strategy) = 0
count_of (Define row) = row.count

-- the fields of the kinds that share them; one that is not used is 0
abbrev pub order_fields_of : Message → OrderFields
order_fields_of (Place o) = record { strategy = o.strategy; side = order_side_code o.side; market = mark_code o.market; time_in_force = o.time_in_force; limit = limit_bits o.limit; quantity = o.quantity; number = 0 }
order_fields_of (Cancel n) = record { strategy = 0; side = 0; market = 0; time_in_force = 0; limit = 0; quantity = 0; number = n }
order_fields_of (Evaluate s) = record { strategy = s; side = 0; market = 0; time_in_force = 0; limit = 0; quantity = 0; number = 0 }
order_fields_of (Define d) = record { strategy = 0; side = 0; market = 0; time_in_force = 0; limit = 0; quantity = 0; number = 0 }

-- a definition has four legs, counted or not
abbrev pub FourLegged : Message → Type 0
FourLegged (Place order) = Unit {0}
FourLegged (Cancel number) = Unit {0}
FourLegged (Evaluate strategy) = Unit {0}
FourLegged (Define row) = length row.legs ≡ 4

-- the values of fields in their order, the unused bits last
abbrev pub order_values : OrderFields → List ℕ
order_values f = f.strategy ∷ f.side ∷ f.market ∷ f.time_in_force ∷ f.limit ∷ f.quantity ∷ f.number ∷ replicate 12 0

abbrev pub leg_values : LegFields → List ℕ
leg_values l = l.series ∷ leg_side_code l.side ∷ l.ratio ∷ []

abbrev pub no_leg : LegFields
no_leg = record { series = 0; side = Bought; ratio = 0 }

abbrev pub leg : List LegFields → ℕ → LegFields
leg legs i = slice_index_or legs i no_leg

abbrev pub values_of : Message → List ℕ
values_of (Place o) = order_values (order_fields_of (Place o))
values_of (Cancel n) = order_values (order_fields_of (Cancel n))
values_of (Evaluate s) = order_values (order_fields_of (Evaluate s))
values_of (Define d) = d.count ∷ (leg_values (leg d.legs 0) ++ (leg_values (leg d.legs 1) ++ (leg_values (leg d.legs 2) ++ (leg_values (leg d.legs 3) ++ replicate 40 0))))

-- each value is at most its field's greatest
abbrev pub all_within : List Field → List ℕ → Bool
all_within [] vs = true
all_within (f ∷ fs) [] = true
all_within (f ∷ fs) (v ∷ vs) = nat_le v f.greatest && all_within fs vs

-- only a limit has a value that its field has in another form
abbrev pub limit_ok : Message → Bool
limit_ok (Place o) = limit_fits o.limit
limit_ok (Cancel n) = true
limit_ok (Evaluate s) = true
limit_ok (Define d) = true

-- a message fits if each of its values may stand in its field
abbrev pub fits : Message → Bool
fits m = limit_ok m && all_within (layout (kind_of m) (count_of m)) (values_of m)

-- the bits of fields as a number: each value, shifted to its place
abbrev pub image : List Field → List ℕ → ℕ
image [] vs = 0
image (f ∷ fs) [] = 0
image (f ∷ fs) (v ∷ vs) = v * 2 ^ (message_bits - (f.place + f.width)) + image fs vs

-- a whole message: edition 2, the kind, and the fields of the kind
abbrev pub image_of : Message → ℕ
image_of m = image (head_layout ++ layout (kind_of m) (count_of m)) (edition_code Signed ∷ kind_code (kind_of m) ∷ values_of m)

-- a message that fits can be written where the room is as long as a message
abbrev pub writable : Message → List ℕ → Bool
writable m room = length room == message_bytes && fits m

abbrev pub write_answer : Message → List ℕ → Result (Unit {0}) WriterFault
write_answer m room = cond (writable m room) (Ok tt) (Err writer_fault)

-- the room afterwards; refused, it is as it was
abbrev pub written : Message → List ℕ → List ℕ
written m room = cond (writable m room) (bytes_of message_bytes (image_of m)) room
