use Rattle.std.proofs.Common.{codes, sym, ap, arith, rules}
use Rattle.lines.proofs.Spelled.{spelled_name}
use Rattle.gateway.specs.Commands.{limit_in}
use Rattle.gateway.proofs.commands.limit_named.Goals as goal

pub returns-in-market : goal.returns-in-market
returns-in-market c = sym (ap limit_in (spelled_name c.args.word.now (codes "market") (omega arith) (search rules)))
