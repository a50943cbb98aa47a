-- `series_rise`: each series is listed, and each is below the next.
use Rattle.std.proofs.Common.{rules, tests, leb, ltb}
use Rattle.simple.specs.Limits.{last_series}
use Rattle.std.proofs.lemmas.Fn.{always_returns_same}
use Rattle.std.proofs.lemmas.Iterator.{YieldsList-from_slice}
use Rattle.std.proofs.lemmas.Iterator.Search.{all_from_yields_List}
use Rattle.strategies.proofs.Walks.{series_rising, series_unlisted}
use Rattle.strategies.proofs.legs.series_rise.Goals as goal

pub returns-then-all : goal.returns-then-all
returns-then-all c =
    let legs = c.args.legs.now in
    let listed = all_from_yields_List (λ l. leb l.series last_series) _ _ c.all.result c.all.ensures.ran (YieldsList-from_slice legs cc) (λ x b q k. search (rules, tests)) in
    let rising = c.is_sorted_by.ensures.cases (λ x y. ltb x.series y.series) (always_returns_same _ _ _ (λ a r q k. search (rules, tests))) in
    series_rising legs c.all.result c.is_sorted_by.result c.if-all.true listed rising

pub returns-else-all : goal.returns-else-all
returns-else-all c =
    let legs = c.args.legs.now in
    let listed = all_from_yields_List (λ l. leb l.series last_series) _ _ c.all.result c.all.ensures.ran (YieldsList-from_slice legs cc) (λ x b q k. search (rules, tests)) in
    series_unlisted legs c.all.result c.if-all.false listed
