use Rattle.std.proofs.Common.{codes, arith, rules}
use Rattle.lines.proofs.Spelled.{spelled_name}
use Rattle.gateway.proofs.commands.kind_words.Goals as goal

pub returns-in-cancel : goal.returns-in-cancel
returns-in-cancel c = rw (spelled_name c.args.kind.now (codes "cancel") (omega arith) (search rules)) (search rules)

pub returns-in-evaluate : goal.returns-in-evaluate
returns-in-evaluate c = rw (spelled_name c.args.kind.now (codes "evaluate") (omega arith) (search rules)) (search rules)

pub returns-in-define : goal.returns-in-define
returns-in-define c = rw (spelled_name c.args.kind.now (codes "define") (omega arith) (search rules)) (search rules)
