-- The bits of a message, counted from 0, the most significant bit of the first byte, and the fields in them.
use Rattle.std.specs.Prelude.{ℕ, zero, suc, ◌+◌, ◌-◌, ◌*◌, ◌/◌, ◌%◌, ◌^◌, List, [], ◌∷◌, slice_index}

-- how long a message is, in bytes and in bits
abbrev pub message_bytes : ℕ
message_bytes = 14

abbrev pub message_bits : ℕ
message_bits = 112

abbrev pub bit : List ℕ → ℕ → ℕ
bit bytes i = slice_index bytes (i / 8) / 2 ^ (7 - i % 8) % 2

-- the number that `width` bits from the bit `place` on write, the most significant first
unfoldable pub field : List ℕ → ℕ → ℕ → ℕ
field bytes place zero = 0
field bytes place (suc width) = field bytes place width * 2 + bit bytes (place + width)

-- a number as `count` bytes, the most significant first
unfoldable pub bytes_of : ℕ → ℕ → List ℕ
bytes_of zero n = []
bytes_of (suc count) n = n / 2 ^ (8 * count) % 256 ∷ bytes_of count n
