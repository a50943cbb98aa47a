-- `push_number`: read again it is the same number.
use Rattle.std.proofs.Common.{rules}
use Rattle.numbers.proofs.Written.{number_back}
use Rattle.numbers.proofs.decimal.push_number.Goals as goal

pub returns-clause-read_again : goal.returns-clause-read_again
returns-clause-read_again c = number_back c.args.n (search rules)
