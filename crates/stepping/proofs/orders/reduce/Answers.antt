-- `reduce`: the order at the place of the number has less, or is gone.
use Rattle.std.proofs.Common.{◌≡◌, true, cond, set, is_some, sym, ap, ◌∙◌}
use Rattle.std.specs.List.{remove}
use Rattle.ranked.specs.Held.{items}
use Rattle.rules.specs.Orders.{less}
use Rattle.stepping.proofs.Places.{reduced_none, reduced_less, reduced_out}
use Rattle.stepping.proofs.orders.reduce.Goals as goal

pub returns-in_default-clause-items : goal.returns-in_default-clause-items
returns-in_default-clause-items c = reduced_none c.args.number (items c.args.orders.now) c.in_default.ensures.answer c.args.quantity

pub returns-then-quantity-order-clause-items : goal.returns-then-quantity-order-clause-items
returns-then-quantity-order-clause-items c =
    let os = items c.args.orders.now in
    let i = c.in-Some.place in
    let o = c.in-Some-get.order in
    let there : is_some c.replace.result ≡ true = ap is_some (c.replace.ensures.answer ∙ sym c.in-Some-get.ensures.answer) in
    c.replace.ensures.items ∙ ap (λ t. cond t (set os i (less c.args.quantity o)) os) there ∙ reduced_less c.args.number os i c.in-Some.ensures.answer c.args.quantity o c.in-Some-get.ensures.answer c.if-quantity-order.true

pub returns-else-quantity-order-clause-items : goal.returns-else-quantity-order-clause-items
returns-else-quantity-order-clause-items c =
    let os = items c.args.orders.now in
    let i = c.in-Some.place in
    let there : is_some c.remove.result ≡ true = ap is_some (c.remove.ensures.answer ∙ sym c.in-Some-get.ensures.answer) in
    c.remove.ensures.items ∙ ap (λ t. cond t (remove os i) os) there ∙ reduced_out c.args.number os i c.in-Some.ensures.answer c.args.quantity c.in-Some-get.order c.in-Some-get.ensures.answer c.if-quantity-order.false
