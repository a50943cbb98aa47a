use Rattle.std.proofs.Common.{ap, ◌∙◌}
use Rattle.simple.specs.Lots.{Lots}
use Rattle.simple.specs.Take.{after, take_answer, taken}
use Rattle.holds.specs.Hold.{layer_lots, layer_frame}
use Rattle.checks.proofs.Uncovered.{uncovered}
use Rattle.checks.proofs.piles.take_through_two.Goals as goal

pub returns : goal.returns
returns g c =
    let book = c.args.book in
    let lots = g.B.SimpleBook.lots in
    let frame = g.B.SimpleBook.frame in
    let layer = c.take_through-layer.result.0 in
    let took = c.take_through-layer.ensures in
    let framed = took.frame ∙ c.new.ensures.frame in
    let bare = uncovered (layer_frame lots frame layer) (lots book) (layer_lots lots layer) (frame book) framed in
    record {
      answer = took.answer ∙ ap (λ (b : Lots). take_answer b c.args.series c.args.side c.args.quantity) c.new.ensures.lots;
      lots = c.into_parts-book.ensures.below ∙ bare ∙ took.lots ∙ ap (λ (b : Lots). after c.take_through-layer.result.1 (taken b c.args.series c.args.side c.args.quantity) b) c.new.ensures.lots;
    }
