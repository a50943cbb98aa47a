-- `do_place`: refused, or what the steps come to once the order is entered.
use Rattle.std.proofs.Common.{◌+◌, eqb, length, ap, ◌∙◌}
use Rattle.ranked.specs.Held.{items, room}
use Rattle.strategies.specs.Strategies.{strategy_legs}
use Rattle.rules.specs.Calls.{entered}
use Rattle.rules.specs.Events.{answer_place}
use Rattle.engine.specs.Model.{model}
use Rattle.engine.proofs.Dids.{err_so, refused_so, place_refused, accepted_so, entered_so, placed_so}
use Rattle.engine.proofs.held.Engine.do_place.Goals as goal

pub returns-in_err-strategy-clause-equation : goal.returns-in_err-strategy-clause-equation
returns-in_err-strategy-clause-equation g c =
    let s = model c.args.self.now in
    let b = g.B.SimpleBook.lots c.args.book.now in
    let list = c.args.executions.now in
    let why = c.in_err-strategy.field-0.0 in
    refused_so s _ b list why _ (place_refused s c.args.order b (length list) why c.in_err-strategy.ensures.refusal) (ap answer_place (err_so c.from_residual.result why c.from_residual.ensures.1))

pub returns-clause-equation : goal.returns-clause-equation
returns-clause-equation g c =
    let lots = g.B.SimpleBook.lots in
    let e = c.args.self.now in
    let s = model e in
    let o = c.args.order in
    let before = c.args.executions.now in
    let x = c.in_ok-strategy.strategy in
    let done = c.place_with in
    let passed = accepted_so s o c.in_ok-strategy.ensures.refusal in
    let into = items c.insert.new.self in
    placed_so s o (lots c.args.book.now) (length before) (strategy_legs x.strategy) _ into before done.new.executions (items done.new.orders) (lots done.new.book) done.result x.number c.in_ok-strategy.ensures.refusal
    c.in_ok-strategy.ensures.strategy.0 c.in_ok-strategy.ensures.strategy.1 (ap (λ n. eqb n 512) (done.ensures.room ∙ c.insert.ensures.room))
    (entered_so s.orders into c.entered.result (entered (e.accepted + 1) o) (room e.orders) c.insert.result passed.is_ready passed.room c.insert.ensures.answer c.insert.ensures.items c.entered.ensures) done.ensures.equation
