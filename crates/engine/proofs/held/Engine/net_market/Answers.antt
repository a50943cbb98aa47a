-- `net_market`: refused, or the market that was read.
use Rattle.std.proofs.Common.{◌∙◌}
use Rattle.refusals.specs.declared.reason.Reason.TheVariants.{Strategy}
use Rattle.refusals.specs.declared.station.Station.TheVariants.{Net}
use Rattle.refusals.specs.Refusals.{refused_at}
use Rattle.strategies.specs.Strategies.{strategy_legs}
use Rattle.rules.specs.States.{strategy_at}
use Rattle.engine.specs.Model.{model}
use Rattle.engine.proofs.Dids.{err_so, was_ready}
use Rattle.engine.proofs.Asked.{net_refused, net_so}
use Rattle.engine.proofs.held.Engine.net_market.Goals as goal

pub returns-in_err-defined-clause-answer : goal.returns-in_err-defined-clause-answer
returns-in_err-defined-clause-answer g c =
    let why = c.in_err-defined.field-0.0 in
    err_so c.from_residual.result why c.from_residual.ensures.1 ∙ net_refused (model c.args.self.now) (g.B.SimpleBook.lots c.args.book.now) c.args.strategy why c.in_err-defined.ensures.refusal

pub returns-clause-answer : goal.returns-clause-answer
returns-clause-answer g c =
    let s = model c.args.self.now in
    let n = c.args.strategy in
    let ready = was_ready s (strategy_at s.strategies n) (refused_at Net Strategy) c.in_ok-defined.ensures.refusal in
    net_so s (g.B.SimpleBook.lots c.args.book.now) n (strategy_legs c.in_ok-defined.defined.strategy) c.net_market.result ready c.in_ok-defined.ensures.strategy.0 c.net_market.ensures.answer
