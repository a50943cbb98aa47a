-- `share_divisor`: each number from 2 to 8 is tried.
use Rattle.std.proofs.Common.{rules, tests}
use Rattle.std.proofs.lemmas.Iterator.Search.{any_from_yields_List}
use Rattle.strategies.specs.Legs.{divides_all}
use Rattle.strategies.proofs.Walks.{two_to_eight}
use Rattle.strategies.proofs.legs.share_divisor.Goals as goal

pub returns : goal.returns
returns c = any_from_yields_List (λ n. divides_all n c.args.legs.now) _ _ _ c.any.ensures.ran (two_to_eight c.new.ensures.start c.new.ensures.end c.new.ensures.exhausted) (λ x b q k. search (rules, tests))
