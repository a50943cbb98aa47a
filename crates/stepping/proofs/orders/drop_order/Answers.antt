-- `drop_order`: the order at the place of the number is gone.
use Rattle.ranked.specs.Held.{items}
use Rattle.stepping.proofs.Places.{dropped_none, dropped_there}
use Rattle.stepping.proofs.orders.drop_order.Goals as goal

pub returns-in-Some-clause-items : goal.returns-in-Some-clause-items
returns-in-Some-clause-items c = dropped_there c.args.number (items c.args.orders.now) c.in-Some.place c.in-Some.ensures.answer c.remove.result _ c.remove.ensures.answer c.in-Some.ensures.found c.remove.ensures.items

pub returns-in_default-clause-items : goal.returns-in_default-clause-items
returns-in_default-clause-items c = dropped_none c.args.number (items c.args.orders.now) c.in_default.ensures.answer
