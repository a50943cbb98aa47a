-- `places`: where the halving ends, and the walk behind it.
use Rattle.std.proofs.Common.{◌≡◌, ◌+◌, ◌-◌, true, not, length, take, drop, ap, ◌∙◌, rules, arith}
use Rattle.std.specs.List.{prefix_len, position_from}
use Rattle.std.specs.Option.{unwrap_or}
use Rattle.std.proofs.lemmas.List.{take_rest}
use Rattle.std.proofs.lemmas.List.Sorted.{IsPartitionPoint-from_clause}
use Rattle.std.proofs.lemmas.Iterator.{YieldsList-from_slice}
use Rattle.std.proofs.lemmas.Iterator.Search.{position_from_yields_List}
use Rattle.std.proofs.lemmas.Iterator.Adapters.{position_from-zero}
use Rattle.lots.specs.Rank.{lot_ahead}
use Rattle.depth.specs.Running.{stands_before}
use Rattle.depth.specs.Lots.{stands_on}
use Rattle.depth.proofs.Runs.{before_first}
use Rattle.depth.proofs.Sides.{no_lot, parted, point_is, taken_front, fails_at, taken_pairwise, stretch}
use Rattle.depth.proofs.side.places.Goals as goal

pub returns-clause-stretch : goal.returns-clause-stretch
returns-clause-stretch c =
    let s = c.args.series in
    let d = c.args.side in
    let xs = c.args.lots.now in
    let near = take c.reach.result xs in
    let i = c.partition_point-first.result in
    let sorted = taken_pairwise (λ x y. lot_ahead x y ≡ true) c.reach.result xs c.requires in
    let first : i ≡ prefix_len (stands_before s d) xs =
    point_is (stands_before s d) near i no_lot c.partition_point-first.ensures.bound
    (IsPartitionPoint-from_clause (stands_before s d) near i c.partition_point-first.ensures.partitioned (parted (stands_before s d) near (before_first s d near sorted)) (λ a r f k. search rules))
    ∙ taken_front (stands_before s d) c.reach.result xs c.reach.ensures.enough in
    let rest : take (length xs - i) (drop i xs) ≡ drop i xs = take_rest xs i in
    let found : c.position.result ≡ position_from (λ x. not (stands_on s d x)) 0 (take (length xs - i) (drop i xs)) =
    position_from_yields_List (λ x. not (stands_on s d x)) _ _ c.position.result c.position.ensures.ran (YieldsList-from_slice _ c.iter.ensures.rest) (λ x b q k. search rules)
    ∙ position_from-zero (λ x. not (stands_on s d x)) _ in
    let own = take (length xs - i) (drop i xs) in
    let plain : 0 + prefix_len (stands_on s d) own ≡ prefix_len (stands_on s d) own = omega arith in
    let count : c.unwrap_or-count.result ≡ prefix_len (stands_on s d) (drop i xs) =
    c.unwrap_or-count.ensures
    ∙ ap (λ o. unwrap_or o (length own)) found
    ∙ fails_at (stands_on s d) 0 own (length own) (omega arith)
    ∙ plain
    ∙ ap (prefix_len (stands_on s d)) rest in
    stretch s d xs c.requires i first c.unwrap_or-count.result count
