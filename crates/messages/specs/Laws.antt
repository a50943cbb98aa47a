-- What the reader and the writer promise, in the words of the format.
use Rattle.std.specs.Prelude.{◌≡◌, ℕ, ◌+◌, ◌^◌, ◌≤◌, true, ◌⊎◌, List, [], ◌∷◌, length, ℤ, pos, ◌+ℤ◌, neg_ℤ, ◌≤ℤ◌, ◌<ℤ◌, is_ok, IfOk, Ok, Result}
use Rattle.messages.specs.declared.codes.Kind.{Kind}
use Rattle.messages.specs.declared.codes.Kind.TheVariants as kind
use Rattle.contents.specs.declared.fault.ReaderFault.{ReaderFault}
use Rattle.contents.specs.declared.edition.Edition.{Edition}
use Rattle.contents.specs.declared.edition.Edition.TheVariants as edition
use Rattle.contents.specs.declared.message.LegFields.{LegFields}
use Rattle.contents.specs.declared.message.Message.{Message}
use Rattle.contents.specs.declared.message.Message.TheVariants.{Place, Cancel, Evaluate, Define}
use Rattle.contents.specs.declared.message.Received.{Received}
use Rattle.messages.specs.Bits.{message_bytes, field}
use Rattle.contents.specs.Editions.{edition_code}
use Rattle.contents.specs.Sides.{order_side_code, leg_side_code}
use Rattle.messages.specs.Codes.{kind_code, mark_code}
use Rattle.messages.specs.Layout.{Field, layout}
use Rattle.messages.specs.Reading.{leg_count, received, read_of}
use Rattle.messages.specs.Writing.{leg, write_answer, written}

-- every field has a value that it may have
abbrev pub Within : List ℕ → List Field → Type 0
Within bytes [] = Unit {0}
Within bytes (f ∷ fs) = (field bytes f.place f.width ≤ f.greatest) × Within bytes fs

-- the length, the edition, the kind and every field are lawful
pub record Lawful (bytes : List ℕ) : Type 0 where
  pub long : length bytes ≡ message_bytes
  pub edition : (field bytes 0 4 ≡ edition_code edition.Unsigned) ⊎ (field bytes 0 4 ≡ edition_code edition.Signed)
  pub kind : Kind
  pub coded : kind_code kind ≡ field bytes 4 4
  pub fields : Within bytes (layout kind (leg_count bytes))

-- bytes are accepted exactly if they are lawful
abbrev pub Accepted : List ℕ → Result Received ReaderFault → Type 0
Accepted bytes r = (is_ok r ≡ true → Lawful bytes) × (Lawful bytes → is_ok r ≡ true)

-- a limit is written by 32 bits: without a sign, or in two's complement
abbrev pub Unsigned : ℕ → ℤ → Type 0
Unsigned raw limit = limit ≡ pos raw

abbrev pub TwosComplement : ℕ → ℤ → Type 0
TwosComplement raw limit = (neg_ℤ (pos (2 ^ 31)) ≤ℤ limit) × (limit <ℤ pos (2 ^ 31)) × ((limit ≡ pos raw) ⊎ (limit +ℤ pos (2 ^ 32) ≡ pos raw))

abbrev pub LimitWritten : Edition → ℕ → ℤ → Type 0
LimitWritten edition.Unsigned raw limit = Unsigned raw limit
LimitWritten edition.Signed raw limit = TwosComplement raw limit

-- the leg whose bits begin at `place`
abbrev pub LegWritten : List ℕ → ℕ → LegFields → Type 0
LegWritten bytes place l = (l.series ≡ field bytes place 10) × (leg_side_code l.side ≡ field bytes (place + 10) 1) × (l.ratio ≡ field bytes (place + 11) 4)

-- each field of a message is the number that its bits write
abbrev pub Written : List ℕ → Edition → Message → Type 0
Written bytes e (Place o) =
    (field bytes 4 4 ≡ kind_code kind.Place)
    × (o.strategy ≡ field bytes 8 8)
    × (order_side_code o.side ≡ field bytes 16 1)
    × (mark_code o.market ≡ field bytes 17 1)
    × (o.time_in_force ≡ field bytes 18 2)
    × LimitWritten e (field bytes 20 32) o.limit
    × (o.quantity ≡ field bytes 52 16)
Written bytes e (Cancel n) = (field bytes 4 4 ≡ kind_code kind.Cancel) × (n ≡ field bytes 68 32)
Written bytes e (Evaluate s) = (field bytes 4 4 ≡ kind_code kind.Evaluate) × (s ≡ field bytes 8 8)
Written bytes e (Define d) =
    (field bytes 4 4 ≡ kind_code kind.Define)
    × (d.count ≡ field bytes 8 4)
    × (length d.legs ≡ 4)
    × LegWritten bytes 12 (leg d.legs 0)
    × LegWritten bytes 27 (leg d.legs 1)
    × LegWritten bytes 42 (leg d.legs 2)
    × LegWritten bytes 57 (leg d.legs 3)

-- what is read is what is written there, in the edition that is written there
abbrev pub Said : List ℕ → Result Received ReaderFault → Type 0
Said bytes r = IfOk r (λ x. (edition_code x.edition ≡ field bytes 0 4) × Written bytes x.edition x.message)

-- a message that was written is read back with all its fields
abbrev pub ReadBack : Message → List ℕ → Type 0
ReadBack m bytes = read_of bytes ≡ Ok (received edition.Signed m)

-- a message that was read in edition 2 is written back, byte by byte, into any room of its length
abbrev pub WrittenBack : List ℕ → Result Received ReaderFault → Type 0
WrittenBack bytes r = IfOk r (λ x. x.edition ≡ edition.Signed → (room : List ℕ) → length room ≡ message_bytes → (write_answer x.message room ≡ Ok tt) × (written x.message room ≡ bytes))
