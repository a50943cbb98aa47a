use Rattle.rules.proofs.Obeying.{theorem}
use Rattle.rules.proofs.theorem.law_stands.Goals as goal

pub returns : goal.returns
returns c = theorem
