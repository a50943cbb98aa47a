-- `of_side`: the lots of the stretch.
use Rattle.depth.proofs.Sides.{stretch_lots}
use Rattle.depth.proofs.side.of_side.Goals as goal

pub returns : goal.returns
returns c = stretch_lots c.args.series c.args.side c.args.lots.now c.places.result.start c.places.result.end c.places.ensures.stretch
