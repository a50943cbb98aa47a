use Rattle.rules.proofs.Obeying.{theorem}
use Rattle.engine.proofs.held.Engine.define.Goals as goal

pub returns-clause-runs : goal.returns-clause-runs
returns-clause-runs c = λ b k lawful. theorem _ _ _ lawful (c.do_define.ensures.equation b k)
