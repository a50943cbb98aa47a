use Rattle.std.proofs.Common.{sym}
use Rattle.std.proofs.lemmas.List.{length-map}
use Rattle.lines.proofs.words.count.Goals as goal

pub returns : goal.returns
returns c = sym (length-map c.args.words.now (λ w. w.now))
