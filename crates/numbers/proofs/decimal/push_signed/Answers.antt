-- `push_signed`: read again it is the same number.
use Rattle.numbers.proofs.Written.{signed_back}
use Rattle.numbers.proofs.decimal.push_signed.Goals as goal

pub returns-clause-read_again : goal.returns-clause-read_again
returns-clause-read_again c = signed_back c.args.n c.ranges.n.sfits
