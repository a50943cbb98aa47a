-- `limit_text`: the number that it shows is read back.
use Rattle.numbers.proofs.Written.{signed_back}
use Rattle.gateway.proofs.texts.limit_text.Goals as goal

pub returns-in-true-eq0-clause-read_again : goal.returns-in-true-eq0-clause-read_again
returns-in-true-eq0-clause-read_again c = signed_back c.args.limit c.ranges.limit.sfits

pub returns-in-true-default-clause-read_again : goal.returns-in-true-default-clause-read_again
returns-in-true-default-clause-read_again c = signed_back c.args.limit c.ranges.limit.sfits

pub returns-in-false-default-clause-read_again : goal.returns-in-false-default-clause-read_again
returns-in-false-default-clause-read_again c = signed_back c.args.limit c.ranges.limit.sfits
