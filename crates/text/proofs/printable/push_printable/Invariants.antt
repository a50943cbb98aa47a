use Rattle.std.proofs.Common.{◌≡◌, ◌+◌, ◌-◌, ◌≤◌, ◌++◌, length, take, string_bytes, string_len, string_capacity}
use Rattle.text.specs.Printable.{printable_word}
use Rattle.text.proofs.printable.push_printable.Given as goal

abbrev pub invariant-loop-b : goal.invariant-loop-b
invariant-loop-b l = (string_bytes l.out ≡ string_bytes l.initial.out ++ printable_word (take l.b-index l.word)) × (string_len l.out + (length l.word - l.b-index) ≤ string_capacity l.out)
