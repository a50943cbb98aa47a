-- `do_cancel`: refused, or one order less.
use Rattle.std.proofs.Common.{[], eqb, ap}
use Rattle.refusals.specs.declared.reason.Reason.TheVariants.{NotResting}
use Rattle.refusals.specs.declared.station.Station.TheVariants.{Cancel}
use Rattle.refusals.specs.Refusals.{refused_at}
use Rattle.rules.specs.Orders.{order_with}
use Rattle.rules.specs.Events.{answer_cancel}
use Rattle.engine.specs.Model.{model}
use Rattle.engine.proofs.Dids.{err_so, was_ready, refused_so, cancel_refused, cancelled_so}
use Rattle.engine.proofs.held.Engine.do_cancel.Goals as goal

pub returns-in_err-order : goal.returns-in_err-order
returns-in_err-order c =
    let s = model c.args.self.now in
    let why = c.in_err-order.field-0.0 in
    record { equation = λ b k. refused_so s _ b [] why _ (cancel_refused s c.args.number b k why c.in_err-order.ensures.refusal) (ap answer_cancel (err_so c.from_residual.result why c.from_residual.ensures.1)) }

pub returns : goal.returns
returns c =
    let s = model c.args.self.now in
    let n = c.args.number in
    let ready = was_ready s (order_with n s.orders) (refused_at Cancel NotResting) c.in_ok-order.ensures.refusal in
    record { equation = λ b k. cancelled_so s n b k c.in_ok-order.order _ _ ready c.in_ok-order.ensures.order (ap (λ n. eqb n 512) c.drop_order.ensures.room) c.drop_order.ensures.items }
