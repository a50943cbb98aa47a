-- `do_evaluate`: refused, or what the steps come to.
use Rattle.std.proofs.Common.{length, eqb, ap}
use Rattle.refusals.specs.declared.reason.Reason.TheVariants.{Strategy}
use Rattle.refusals.specs.declared.station.Station.TheVariants.{Evaluate}
use Rattle.refusals.specs.Refusals.{refused_at}
use Rattle.ranked.specs.Held.{items}
use Rattle.strategies.specs.Strategies.{strategy_legs}
use Rattle.rules.specs.States.{strategy_at}
use Rattle.rules.specs.Events.{answer_evaluate}
use Rattle.engine.specs.Model.{model}
use Rattle.engine.proofs.Dids.{err_so, was_ready, refused_so, evaluate_refused, evaluated_so}
use Rattle.engine.proofs.held.Engine.do_evaluate.Goals as goal

pub returns-in_err-strategy-clause-equation : goal.returns-in_err-strategy-clause-equation
returns-in_err-strategy-clause-equation g c =
    let s = model c.args.self.now in
    let b = g.B.SimpleBook.lots c.args.book.now in
    let list = c.args.executions.now in
    let why = c.in_err-strategy.field-0.0 in
    refused_so s _ b list why _ (evaluate_refused s c.args.strategy b (length list) why c.in_err-strategy.ensures.refusal) (ap answer_evaluate (err_so c.from_residual.result why c.from_residual.ensures.1))

pub returns-clause-equation : goal.returns-clause-equation
returns-clause-equation g c =
    let lots = g.B.SimpleBook.lots in
    let s = model c.args.self.now in
    let n = c.args.strategy in
    let before = c.args.executions.now in
    let x = c.in_ok-strategy.strategy in
    let done = c.evaluate_with in
    let ready = was_ready s (strategy_at s.strategies n) (refused_at Evaluate Strategy) c.in_ok-strategy.ensures.refusal in
    evaluated_so s n (lots c.args.book.now) (length before) (strategy_legs x.strategy) _ before done.new.executions (items done.new.orders) (lots done.new.book) done.result x.number ready
    c.in_ok-strategy.ensures.strategy.0 c.in_ok-strategy.ensures.strategy.1 (ap (λ n. eqb n 512) done.ensures.room) done.ensures.equation
