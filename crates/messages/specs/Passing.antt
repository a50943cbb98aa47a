-- What reading does to the reader.
use Rattle.std.specs.Prelude.{◌≡◌, ℕ, ◌+◌, ◌≤◌, List}
use Rattle.messages.specs.declared.bits.BitReader.{BitReader}
use Rattle.messages.specs.Bits.{message_bits}
use Rattle.messages.specs.Layout.{Field}
use Rattle.messages.specs.Reading.{first, first_offence}

-- the message has so many bits left, and they may be read as one number
abbrev pub Passable : BitReader → ℕ → Type 0
Passable reader width = (width ≤ 48) × (reader.at + width ≤ message_bits)

-- so many bits were passed, and the first of their fields that offends is noted, unless an earlier one was
pub record Passed (old new : BitReader) (width : ℕ) (fields : List Field) : Type 0 where
  pub at : new.at ≡ old.at + width
  pub offence : new.offence ≡ first old.offence (first_offence old.bytes.now fields)
  pub bytes : new.bytes.now ≡ old.bytes.now
