use Rattle.std.proofs.Common.{◌≡◌, take, string_bytes}
use Rattle.text.specs.Printable.{printable_line}
use Rattle.text.specs.Words.{lent}
use Rattle.text.proofs.printable.printable_line.Given as goal

abbrev pub invariant-loop-i : goal.invariant-loop-i
invariant-loop-i l = string_bytes l.line ≡ printable_line (lent (take l.i l.words))
