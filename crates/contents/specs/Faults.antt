-- The faults of the reader and of the writer, as refusals.
use Rattle.std.specs.Prelude.{ℕ}
use Rattle.refusals.specs.declared.reason.Reason.{Reason}
use Rattle.refusals.specs.declared.reason.Reason.TheVariants.{Length, Edition, Kind, Field, Unwritable}
use Rattle.refusals.specs.declared.station.Station.TheVariants.{Reader, Writer}
use Rattle.refusals.specs.declared.refusal.Refusal.{Refusal}
use Rattle.refusals.specs.Refusals.{refused_at}
use Rattle.contents.specs.declared.fault.ReaderFault.{ReaderFault}
use Rattle.contents.specs.declared.fault.WriterFault.{WriterFault}

-- the reader's fault for a reason, at a bit place
abbrev pub reader_fault : Reason → ℕ → ReaderFault
reader_fault why place = record { reason = why; bit = place }

-- the reader's reason of a fault: any but the first three is that of a field
abbrev pub reader_reason : Reason → Reason
reader_reason Length = Length
reader_reason Edition = Edition
reader_reason Kind = Kind
reader_reason _ = Field

abbrev pub reader_refusal : ReaderFault → Refusal
reader_refusal fault = record { station = Reader; reason = reader_reason fault.reason; bit = fault.bit }

-- there is one reason why a message is not written
abbrev pub writer_fault : WriterFault
writer_fault = record {}

abbrev pub writer_refusal : Refusal
writer_refusal = refused_at Writer Unwritable
