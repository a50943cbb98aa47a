-- `do_define`: refused, or one strategy more.
use Rattle.std.proofs.Common.{[], ap}
use Rattle.rules.specs.Events.{answer_define}
use Rattle.engine.specs.Model.{model}
use Rattle.engine.proofs.Dids.{err_so, refused_so, define_refused, defined_so}
use Rattle.engine.proofs.held.Engine.do_define.Goals as goal

pub returns-in_err-check_define : goal.returns-in_err-check_define
returns-in_err-check_define c =
    let s = model c.args.self.now in
    let why = c.in_err-check_define.field-0.0 in
    record { equation = λ b k. refused_so s _ b [] why _ (define_refused s (record { count = c.args.count; legs = c.args.legs.now }) b k why c.in_err-check_define.ensures) (ap answer_define (err_so c.from_residual.result why c.from_residual.ensures.1)) }

pub returns : goal.returns
returns c = record { equation = λ b k. defined_so (model c.args.self.now) (record { count = c.args.count; legs = c.args.legs.now }) b k c.len-number.result _ c.in_ok-check_define.ensures c.len-number.ensures.count c.push.ensures }
