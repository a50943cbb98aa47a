use Rattle.std.proofs.Common.{◌≡◌, ◌++◌, drop, vec_items}
use Rattle.std.specs.Option.{option_map}
use Rattle.text.specs.Words.{lent}
use Rattle.gateway.specs.Commands.{bytes_in}
use Rattle.gateway.proofs.answers.bytes_in.Given as goal

abbrev pub invariant-loop-word : goal.invariant-loop-word
invariant-loop-word l = bytes_in (lent l.words) ≡ option_map (λ more. vec_items l.bytes ++ more) (bytes_in (lent (drop l.word-index l.words)))
