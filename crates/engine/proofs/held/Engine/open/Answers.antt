-- `open`: an engine that was just opened is where every list of calls starts.
use Rattle.std.proofs.Common.{◌≡◌, eqb, [], length, sym, subst}
use Rattle.rules.specs.States.{State, opened}
use Rattle.rules.specs.Runs.{Run, start}
use Rattle.engine.specs.Model.{model}
use Rattle.engine.proofs.held.Engine.open.Goals as goal

pub returns : goal.returns
returns c =
    let ready = eqb (length c.args.memory.now) 512 in
    let is : model (record { orders = c.open.result; table = c.new.result; accepted = 0 }) ≡ opened ready = λ i. record { ready = eqb (c.open.ensures.room i) 512; strategies = c.new.ensures i; orders = c.open.ensures.items i; accepted = 0 } in
    let P : State → Type 0 = λ s. Run [] s in
    record { state = is; runs = subst P (sym is) (start ready) }
