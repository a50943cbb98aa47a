use Rattle.std.proofs.Common.{codes, rules, arith}
use Rattle.lines.proofs.Spelled.{spelled_name}
use Rattle.replay.proofs.commands.command_named.Goals as goal
use Rattle.replay.proofs.commands.command_named.Goals.{in-best, in-book, in-take, in-hold, in-post, in-quote, in-release, in-withdraw}

pub returns : goal.returns
returns c =
    let name = c.args.name.now in
    elim c.if-name-lt5.branch [
      | in-best w ↦ rw (spelled_name name (codes "best") (omega arith) (search rules)) (search rules)
      | in-book w ↦ rw (spelled_name name (codes "book") (omega arith) (search rules)) (search rules)
      | in-take w ↦ rw (spelled_name name (codes "take") (omega arith) (search rules)) (search rules)
      | in-hold w ↦ rw (spelled_name name (codes "hold") (omega arith) (search rules)) (search rules)
      | in-post w ↦ rw (spelled_name name (codes "post") (omega arith) (search rules)) (search rules)
      | in-quote w ↦ rw (spelled_name name (codes "quote") (omega arith) (search rules)) (search rules)
      | in-release w ↦ rw (spelled_name name (codes "release") (omega arith) (search rules)) (search rules)
      | in-withdraw w ↦ rw (spelled_name name (codes "withdraw") (omega arith) (search rules)) (search rules)
    ]
