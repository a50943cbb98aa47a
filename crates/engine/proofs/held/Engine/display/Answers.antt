-- `display`: refused, or the price on the market that was read.
use Rattle.std.proofs.Common.{◌≡◌, ◌∙◌, rules}
use Rattle.std.specs.Option.{option_map}
use Rattle.refusals.specs.declared.reason.Reason.TheVariants.{NotResting}
use Rattle.refusals.specs.declared.station.Station.TheVariants.{Display}
use Rattle.refusals.specs.Refusals.{refused_at}
use Rattle.pricing.specs.Markets.{legs_of}
use Rattle.pricing.specs.Display.{displayed}
use Rattle.rules.specs.Orders.{order_with}
use Rattle.engine.specs.Model.{model}
use Rattle.engine.proofs.Dids.{err_so, was_ready}
use Rattle.engine.proofs.Asked.{display_refused, display_so}
use Rattle.engine.proofs.held.Engine.display.Goals as goal

pub returns-in_err-order-clause-answer : goal.returns-in_err-order-clause-answer
returns-in_err-order-clause-answer g c =
    let why = c.in_err-order.field-0.0 in
    err_so c.from_residual.result why c.from_residual.ensures.1 ∙ display_refused (model c.args.self.now) (g.B.SimpleBook.lots c.args.book.now) c.args.number why c.in_err-order.ensures.refusal

pub returns-clause-answer : goal.returns-clause-answer
returns-clause-answer g c =
    let s = model c.args.self.now in
    let n = c.args.number in
    let o = c.in_ok-order.order in
    let ready = was_ready s (order_with n s.orders) (refused_at Display NotResting) c.in_ok-order.ensures.refusal in
    let is : c.displayed_price.result ≡ displayed (option_map legs_of c.market_in-market.result) o.buy o.limit c.working_limit.result = search rules in
    display_so s (g.B.SimpleBook.lots c.args.book.now) n o (option_map legs_of c.market_in-market.result) c.working_limit.result c.displayed_price.result ready c.in_ok-order.ensures.order c.market_in-market.ensures.answer c.working_limit.ensures is
