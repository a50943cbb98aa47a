use Rattle.std.proofs.Common.{ap, ◌∙◌}
use Rattle.ranked.specs.Held.{items}
use Rattle.depth.specs.Lots.{lots_of}
use Rattle.depth.proofs.Kept.{sorted_now, within_now}
use Rattle.depth.proofs.depth.DepthBook.of_side.Goals as goal

pub of_side-requires : goal.of_side-requires
of_side-requires c = sorted_now _ _ c.args.self.now.posted c.args.self.now.sound c.entries.ensures

pub returns : goal.returns
returns c =
    let book = c.args.self.now in
    let is = c.of_side.ensures ∙ ap (λ ys. lots_of ys c.args.series c.args.side) c.entries.ensures in
    record { lots = is; within = within_now (items book.lots) book.posted book.sound c.args.series c.args.side _ is }
