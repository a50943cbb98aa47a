use Rattle.std.proofs.Common.{codes, sym, ap, arith, rules}
use Rattle.lines.proofs.Spelled.{spelled_name}
use Rattle.replay.specs.Commands.{class_in}
use Rattle.replay.proofs.commands.class_named.Goals as goal

pub returns-in-customer : goal.returns-in-customer
returns-in-customer c = sym (ap class_in (spelled_name c.args.word.now (codes "customer") (omega arith) (search rules)))
