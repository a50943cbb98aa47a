-- `is_ahead`: the keys are compared as tuples are.
use Rattle.std.proofs.Common.{◌∙◌}
use Rattle.rules.specs.Orders.{limit_of}
use Rattle.rules.proofs.Ranks.{ahead_so}
use Rattle.rules.proofs.order.OrderRanked.is_ahead.Goals as goal

pub returns : goal.returns
returns c =
    let a = c.args.self.now in
    let b = c.args.other.now in
    let mine = c.key.ensures in
    let others = c.key-2.ensures in
    c.lt.ensures ∙ rw (mine.strategy, mine.side, mine.limit, mine.number, others.strategy, others.side, others.limit, others.number) (ahead_so a.strategy b.strategy a.buy b.buy (limit_of a) (limit_of b) a.number b.number)
