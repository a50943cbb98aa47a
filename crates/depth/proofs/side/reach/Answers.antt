-- `reach`: behind a lot that does not stand before the side none does.
use Rattle.std.proofs.Common.{◌<◌, length, sym, ◌∙◌, ltb-true}
use Rattle.std.proofs.lemmas.List.Sums.{prefix_len-le-length}
use Rattle.depth.specs.Running.{stands_before}
use Rattle.depth.proofs.Sides.{stops_at}
use Rattle.depth.proofs.side.reach.Goals as goal

pub returns-in_default-clause-enough : goal.returns-in_default-clause-enough
returns-in_default-clause-enough c = prefix_len-le-length (stands_before c.args.series c.args.side) c.args.lots.now

pub returns-then-not-is_before-clause-enough : goal.returns-then-not-is_before-clause-enough
returns-then-not-is_before-clause-enough c =
    let within : c.loop.place < length c.args.lots.now = ltb-true _ _ (sym c.in-Some.ensures.lookup.0) in
    stops_at (stands_before c.args.series c.args.side) c.args.lots.now c.loop.place c.in-Some.lot.now _ within c.in-Some.ensures.lookup.1 (sym c.is_before.ensures ∙ c.if-not-is_before.true)

pub returns-clause-enough : goal.returns-clause-enough
returns-clause-enough c = prefix_len-le-length (stands_before c.args.series c.args.side) c.args.lots.now
