use Rattle.std.proofs.Common.{◌≡◌, take, string_bytes}
use Rattle.gateway.specs.Texts.{bytes_text}
use Rattle.gateway.proofs.answers.bytes_text.Given as goal

abbrev pub invariant-loop-i : goal.invariant-loop-i
invariant-loop-i l = string_bytes l.text ≡ bytes_text (take l.i l.bytes)
