-- What bytes say: a message, or why they are none.
use Rattle.std.specs.Prelude.{ℕ, ◌+◌, cond, List, [], ◌∷◌, length, Some, None, Ok, Err, Option, Result, ◌==◌, nat_lt}
use Rattle.refusals.specs.declared.reason.Reason.TheVariants as why
use Rattle.messages.specs.declared.codes.Kind as kinds
use Rattle.messages.specs.declared.codes.Kind.TheVariants as kind
use Rattle.contents.specs.declared.fault.ReaderFault.{ReaderFault}
use Rattle.messages.specs.declared.fields.OrderFields.{OrderFields}
use Rattle.contents.specs.declared.edition.Edition.{Edition}
use Rattle.contents.specs.declared.message.DefineFields.{DefineFields}
use Rattle.contents.specs.declared.message.LegFields.{LegFields}
use Rattle.contents.specs.declared.message.Message.{Message}
use Rattle.contents.specs.declared.message.Message.TheVariants.{Place, Cancel, Evaluate, Define}
use Rattle.contents.specs.declared.message.Received.{Received}
use Rattle.messages.specs.Bits.{message_bytes, field}
use Rattle.contents.specs.Editions.{edition_coded}
use Rattle.contents.specs.Sides.{order_side_coded, leg_side_coded}
use Rattle.messages.specs.Codes.{kind_coded, mark_coded}
use Rattle.contents.specs.Faults.{reader_fault}
use Rattle.messages.specs.Layout as layouts
use Rattle.messages.specs.Layout.{layout}
use Rattle.messages.specs.Limits.{limit_in}

-- the earlier of two offences
abbrev pub first : Option ℕ → Option ℕ → Option ℕ
first (Some place) later = Some place
first None later = later

-- a field whose value is above its greatest offends
abbrev pub offence_of : List ℕ → layouts.Field → Option ℕ
offence_of bytes f = cond (nat_lt f.greatest (field bytes f.place f.width)) (Some f.answered) None

-- the first offence in order of place
abbrev pub first_offence : List ℕ → List layouts.Field → Option ℕ
first_offence bytes [] = None
first_offence bytes (f ∷ fs) = first (offence_of bytes f) (first_offence bytes fs)

-- what is read where no field offends
abbrev pub unless : {A : Type 0} → Option ℕ → A → Result A ReaderFault
unless None x = Ok x
unless (Some place) x = Err (reader_fault why.Field place)

-- the fields that placing, cancelling and evaluating share
abbrev pub order_fields : List ℕ → OrderFields
order_fields bytes = record {
  strategy = field bytes 8 8;
  side = field bytes 16 1;
  market = field bytes 17 1;
  time_in_force = field bytes 18 2;
  limit = field bytes 20 32;
  quantity = field bytes 52 16;
  number = field bytes 68 32;
}

-- the leg whose bits begin at `place`
abbrev pub leg_at : List ℕ → ℕ → LegFields
leg_at bytes place = record { series = field bytes place 10; side = leg_side_coded (field bytes (place + 10) 1); ratio = field bytes (place + 11) 4 }

abbrev pub leg_count : List ℕ → ℕ
leg_count bytes = field bytes 8 4

-- the order that the fields place in an edition
abbrev pub placed : Edition → OrderFields → Message
placed edition f = Place (record {
  strategy = f.strategy;
  side = order_side_coded f.side;
  market = mark_coded f.market;
  time_in_force = f.time_in_force;
  limit = limit_in edition f.limit;
  quantity = f.quantity;
})

-- the definition that bytes say
abbrev pub defined : List ℕ → DefineFields
defined bytes = record { count = leg_count bytes; legs = leg_at bytes 12 ∷ leg_at bytes 27 ∷ leg_at bytes 42 ∷ leg_at bytes 57 ∷ [] }

-- the message of a kind that bytes say in an edition
abbrev pub said : kinds.Kind → Edition → List ℕ → Message
said kind.Place edition bytes = placed edition (order_fields bytes)
said kind.Cancel edition bytes = Cancel (order_fields bytes).number
said kind.Evaluate edition bytes = Evaluate (order_fields bytes).strategy
said kind.Define edition bytes = Define (defined bytes)

abbrev pub received : Edition → Message → Received
received edition message = record { edition = edition; message = message }

-- by the kind, if there is one of that code
abbrev pub read_kind : Option kinds.Kind → Edition → List ℕ → Result Received ReaderFault
read_kind None edition bytes = Err (reader_fault why.Kind 0)
read_kind (Some k) edition bytes = unless (first_offence bytes (layout k (leg_count bytes))) (received edition (said k edition bytes))

-- by the edition, if there is one of that code
abbrev pub read_edition : Option Edition → List ℕ → Result Received ReaderFault
read_edition None bytes = Err (reader_fault why.Edition 0)
read_edition (Some edition) bytes = read_kind (kind_coded (field bytes 4 4)) edition bytes

-- what bytes say: their length is tested first, then the edition, the kind, and the fields in order of place
abbrev pub read_of : List ℕ → Result Received ReaderFault
read_of bytes =
    cond (length bytes == message_bytes)
    (read_edition (edition_coded (field bytes 0 4)) bytes)
    (Err (reader_fault why.Length 0))
