-- `order_with`: what stands at the place of the number.
use Rattle.std.proofs.Common.{◌∙◌}
use Rattle.ranked.specs.Held.{items}
use Rattle.stepping.proofs.Places.{with_none, with_at}
use Rattle.stepping.proofs.orders.order_with.Goals as goal

pub returns-in_err-place : goal.returns-in_err-place
returns-in_err-place c = c.from_residual.ensures ∙ with_none c.args.number (items c.args.orders.now) c.in_err-place.ensures.answer

pub returns : goal.returns
returns c = c.get.ensures.answer ∙ with_at c.args.number (items c.args.orders.now) c.in_ok-place.place c.in_ok-place.ensures.answer
