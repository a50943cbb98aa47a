use Rattle.std.proofs.Common.{ap, ◌∙◌}
use Rattle.simple.specs.Lots.{Lots}
use Rattle.simple.specs.Take.{after, take_answer, taken}
use Rattle.holds.specs.Hold.{layer_lots, layer_frame}
use Rattle.checks.proofs.Uncovered.{uncovered}
use Rattle.checks.proofs.piles.take_through.Goals as goal

pub returns : goal.returns
returns g c =
    let book = c.args.book in
    let lots = g.B.SimpleBook.lots in
    let frame = g.B.SimpleBook.frame in
    let layer = c.take-answer.new.self in
    let took = c.take-answer.ensures in
    let framed = took.frame ∙ c.new-layer.ensures.frame in
    let bare = uncovered (layer_frame lots frame layer) (lots book) (layer_lots lots layer) (frame book) framed in
    record {
      answer = took.answer ∙ ap (λ (b : Lots). take_answer b c.args.series c.args.side c.args.quantity) c.new-layer.ensures.lots;
      lots = c.into_parts-book.ensures.below ∙ bare ∙ took.lots ∙ ap (λ (b : Lots). after c.take-answer.result (taken b c.args.series c.args.side c.args.quantity) b) c.new-layer.ensures.lots;
      frame = ap (λ f. f.below) (c.into_parts-book.ensures.frame ∙ framed);
    }
