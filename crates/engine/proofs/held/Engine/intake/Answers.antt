use Rattle.rules.proofs.Obeying.{theorem}
use Rattle.engine.proofs.held.Engine.intake.Goals as goal

pub returns-clause-runs : goal.returns-clause-runs
returns-clause-runs g c = theorem _ _ _ (g.B.SimpleBook.lawful c.args.book.now) c.do_intake.ensures.equation
