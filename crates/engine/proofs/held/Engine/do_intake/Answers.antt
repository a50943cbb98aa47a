-- `do_intake`: refused, not read, or what the call came to that the message asked for.
use Rattle.std.proofs.Common.{◌≡◌, length, take, Err, sym, refl, ap, ◌∙◌}
use Rattle.std.proofs.lemmas.Result.{err_from_is_err_and}
use Rattle.rules.specs.Calls.{Did, did}
use Rattle.rules.specs.Events.{Answer, refused, unread, call_of, answer_intake, records_told, written_over}
use Rattle.engine.specs.Model.{model}
use Rattle.engine.specs.Messages.{answer_asked}
use Rattle.engine.proofs.Dids.{refused_so}
use Rattle.engine.proofs.Asking.{narrow, stopped_all, unread_so, asked_so, answered_so}
use Rattle.engine.proofs.held.Engine.do_intake.Goals as goal

pub returns-in_err-check_ready : goal.returns-in_err-check_ready
returns-in_err-check_ready g c =
    let p = err_from_is_err_and c.from_residual.result c.from_residual.ensures.1 in
    let s = model c.args.self.now in
    let b = g.B.SimpleBook.lots c.args.book.now in
    let list = c.args.executions.now in
    let why = c.in_err-check_ready.field-0.0 in
    let answer : answer_intake c.from_residual.result ≡ refused why = ap answer_intake (p.1 ∙ ap Err p.2) in
    record {
      equation = refused_so s _ b list why _ (stopped_all s (call_of c.args.message.now) b (length list) why c.in_err-check_ready.ensures) answer;
      list = ap (λ a. written_over (take (records_told a) list) list) (sym answer);
      frame = refl;
    }

pub returns-in_err-received : goal.returns-in_err-received
returns-in_err-received g c =
    let p = err_from_is_err_and c.from_residual-in_err-received.result c.from_residual-in_err-received.ensures.1 in
    let s = model c.args.self.now in
    let b = g.B.SimpleBook.lots c.args.book.now in
    let fault = c.in_err-received.field-0.0 in
    let answer : answer_intake c.from_residual-in_err-received.result ≡ unread fault = ap answer_intake (p.1 ∙ ap Err p.2) in
    record {
      equation = unread_so s c.args.message.now b (length c.args.executions.now) fault c.in_ok-check_ready.ensures c.in_err-received.ensures.answer ∙ ap (λ a. record { answer = a; executions = take (records_told a) c.args.executions.now; after = b; next = s }) (sym answer);
      list = ap (λ a. written_over (take (records_told a) c.args.executions.now) c.args.executions.now) (sym answer);
      frame = refl;
    }

pub act-requires : goal.act-requires
act-requires g c = narrow c.args.message.now c.in_ok-received.received.edition c.in_ok-received.received.message c.in_ok-received.ensures.said.1

pub returns-in_err-act : goal.returns-in_err-act
returns-in_err-act g c =
    let p = err_from_is_err_and c.from_residual-in_err-act.result c.from_residual-in_err-act.ensures.1 in
    let s = model c.args.self.now in
    let b = g.B.SimpleBook.lots c.args.book.now in
    let k = length c.args.executions.now in
    let out = c.act.new.executions in
    let answer : answer_intake c.from_residual-in_err-act.result ≡ answer_asked (Err c.in_err-act.field-0.0) = ap answer_intake (p.1 ∙ ap Err p.2) in
    let seen : Answer → Did = λ a. record { answer = a; executions = take (records_told a) out; after = g.B.SimpleBook.lots c.act.new.book; next = model c.act.new.self } in
    record {
      equation = ap (λ call. did s call b k) (asked_so c.args.message.now c.in_ok-received.received c.in_ok-received.ensures.answer) ∙ c.in_err-act.ensures.equation ∙ ap seen (sym answer);
      list = c.in_err-act.ensures.list ∙ ap (λ a. written_over (take (records_told a) out) c.args.executions.now) (sym answer);
      frame = c.in_err-act.ensures.frame;
    }

pub returns : goal.returns
returns g c =
    let s = model c.args.self.now in
    let b = g.B.SimpleBook.lots c.args.book.now in
    let k = length c.args.executions.now in
    let out = c.act.new.executions in
    let answer = answered_so c.in_ok-act.field-0 in
    let seen : Answer → Did = λ a. record { answer = a; executions = take (records_told a) out; after = g.B.SimpleBook.lots c.act.new.book; next = model c.act.new.self } in
    record {
      equation = ap (λ call. did s call b k) (asked_so c.args.message.now c.in_ok-received.received c.in_ok-received.ensures.answer) ∙ c.in_ok-act.ensures.equation ∙ ap seen answer;
      list = c.in_ok-act.ensures.list ∙ ap (λ a. written_over (take (records_told a) out) c.args.executions.now) answer;
      frame = c.in_ok-act.ensures.frame;
    }
