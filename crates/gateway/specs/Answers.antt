-- What is printed of each line, and what is counted.
use Rattle.std.specs.Prelude.{ℕ, ◌+◌, ◌-◌, ◌^◌, min, Bool, cond, List, [], ◌++◌, length, replicate, ℤ, Some, None, Ok, Err, codes, decimal, Option, Result, nat_lt, is_some}
use Rattle.std.specs.Str.{bytes_eq}
use Rattle.contents.specs.declared.fault.ReaderFault.{ReaderFault}
use Rattle.contents.specs.declared.fault.WriterFault.{WriterFault}
use Rattle.contents.specs.declared.message.Message.{Message}
use Rattle.contents.specs.declared.message.Message.TheVariants.{Place, Cancel, Evaluate, Define}
use Rattle.contents.specs.declared.message.Received.{Received}
use Rattle.contents.specs.Editions.{edition_code}
use Rattle.contents.specs.Faults.{reader_refusal, writer_refusal}
use Rattle.messages.specs.Reading.{read_of}
use Rattle.messages.specs.Writing.{write_answer, written}
use Rattle.text.specs.Printable.{printable_line}
use Rattle.gateway.specs.declared.tally.Complaint.{Complaint}
use Rattle.gateway.specs.declared.tally.Complaint.TheVariants.{Unwritten, Overlong, Unknown}
use Rattle.gateway.specs.declared.tally.Outcome.{Outcome}
use Rattle.gateway.specs.declared.tally.Outcome.TheVariants.{Read, Refused, Written, Wrong}
use Rattle.gateway.specs.declared.tally.Tally.{Tally}
use Rattle.refusals.specs.Refusals.{refusal_text}
use Rattle.replies.specs.Texts.{newline}
use Rattle.lines.specs.Words.{word}
use Rattle.gateway.specs.Commands.{bytes_in, message_in}
use Rattle.gateway.specs.Texts.{message_text, is_beyond, warning_text, bytes_text}

-- a message that places an order at a limit beyond what the engine takes is warned of
abbrev pub limit_warning : ℤ → Option (List ℕ)
limit_warning limit = cond (is_beyond limit) (Some (warning_text limit)) None

abbrev pub warning_of : Message → Option (List ℕ)
warning_of (Place o) = limit_warning o.limit
warning_of (Cancel n) = None
warning_of (Evaluate s) = None
warning_of (Define d) = None

-- the warning follows in a line of its own
abbrev pub below : Option (List ℕ) → List ℕ
below None = []
below (Some warning) = newline ++ warning

-- what is printed of bytes that were read
abbrev pub reading_text : Result Received ReaderFault → List ℕ
reading_text (Ok x) = message_text (edition_code x.edition) x.message ++ below (warning_of x.message)
reading_text (Err f) = refusal_text (reader_refusal f)

-- what is printed of a message that was written into 14 bytes of zeros
abbrev pub room : List ℕ
room = replicate 14 0

abbrev pub writing_text : Result (Unit {0}) WriterFault → List ℕ → List ℕ
writing_text (Ok x) bytes = bytes_text bytes
writing_text (Err f) bytes = refusal_text writer_refusal

-- what is counted of a line
abbrev pub reading_outcome : Result Received ReaderFault → Outcome
reading_outcome (Ok x) = Read (is_some (warning_of x.message))
reading_outcome (Err f) = Refused

-- the bytes of a line: at most 64, each a word of two hexadecimal digits
abbrev pub line_bytes : List (List ℕ) → Option (List ℕ)
line_bytes ws = cond (nat_lt 64 (length ws)) None (bytes_in ws)

-- what is wrong with a line that is neither
abbrev pub complaint_of : List (List ℕ) → Complaint
complaint_of ws = cond (bytes_eq (word ws 0) (codes "write")) Unwritten (cond (nat_lt 64 (length ws)) Overlong Unknown)

abbrev pub complaint_text : Complaint → List ℕ
complaint_text Unwritten = codes "no message to write"
complaint_text Overlong = codes "more than 64 bytes"
complaint_text Unknown = codes "neither hexadecimal bytes nor a command"

abbrev pub error_text : ℕ → List (List ℕ) → List ℕ
error_text n ws = codes "error line " ++ (decimal n ++ (codes ": " ++ complaint_text (complaint_of ws)))

-- what is printed of a line that has words, by what they are
abbrev pub other_reply : Option Message → ℕ → List (List ℕ) → List ℕ
other_reply (Some m) n ws = writing_text (write_answer m room) (written m room)
other_reply None n ws = error_text n ws

abbrev pub reply : Option (List ℕ) → ℕ → List (List ℕ) → List ℕ
reply (Some bytes) n ws = reading_text (read_of bytes)
reply None n ws = other_reply (message_in ws) n ws

abbrev pub other_outcome : Option Message → Outcome
other_outcome (Some m) = Written
other_outcome None = Wrong

abbrev pub outcome : Option (List ℕ) → List (List ℕ) → Outcome
outcome (Some bytes) ws = reading_outcome (read_of bytes)
outcome None ws = other_outcome (message_in ws)

-- the words of a line are printed first
abbrev pub line_text : ℕ → List (List ℕ) → List ℕ
line_text n ws = codes "> " ++ (printable_line ws ++ (newline ++ (reply (line_bytes ws) n ws ++ newline)))

-- one more, up to the greatest number
abbrev pub more : ℕ → ℕ
more n = min (n + 1) (2 ^ 64 - 1)

abbrev pub more_if : Bool → ℕ → ℕ
more_if b n = cond b (more n) n

abbrev pub nothing_counted : Tally
nothing_counted = record { messages = 0; read = 0; refused = 0; warnings = 0; errors = 0 }

-- the messages given to read are counted, with what came of them
abbrev pub counted : Tally → Outcome → Tally
counted t (Read warned) = record { messages = more t.messages; read = more t.read; refused = t.refused; warnings = more_if warned t.warnings; errors = t.errors }
counted t Refused = record { messages = more t.messages; read = t.read; refused = more t.refused; warnings = t.warnings; errors = t.errors }
counted t Written = t
counted t Wrong = record { messages = t.messages; read = t.read; refused = t.refused; warnings = t.warnings; errors = more t.errors }

abbrev pub tally_text : Tally → List ℕ
tally_text t = codes "messages " ++ (decimal t.messages ++ (codes " read " ++ (decimal t.read ++ (codes " refused " ++ (decimal t.refused ++ (codes " warnings " ++ decimal t.warnings))))))
