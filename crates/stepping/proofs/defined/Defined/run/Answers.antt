-- `run`: the records written, and the steps that are left.
use Rattle.std.proofs.Common.{◌∙◌, arith}
use Rattle.std.proofs.lemmas.List.{set-get_or}
use Rattle.ranked.specs.Held.{items}
use Rattle.strategies.specs.Strategies.{strategy_legs}
use Rattle.rules.specs.Steps.{trading}
use Rattle.stepping.specs.Stepping.{told}
use Rattle.stepping.proofs.Going.{going_more, going_full, going_all, after_so}
use Rattle.stepping.proofs.defined.Defined.run.Goals as goal

-- that the value written is the record is searched for, not cited: an edit of it is refused by its value
pub loop-records-preserved : goal.loop-records-preserved
loop-records-preserved g c =
    let lots = g.B.SimpleBook.lots in
    let of = c.args.self.now in
    let legs = strategy_legs of.strategy in
    let l = c.loop-records in
    let x = told c.in-Some.step in (
      going_more legs of.number _ c.args.out.now l.out l.records (trading (items l.orders) (lots l.book)) l.invariant.0 x _ (trading (items c.settle.new.orders) (lots c.take.new.book)) c.in-Some.ensures.answer (grind arith) c.loop-records-test.true (after_so legs x (items l.orders) (items c.settle.new.orders) (lots l.book) (lots c.next_step.new.book) (lots c.take.new.book) c.settle.ensures.items c.next_step.ensures.lots c.take.ensures.lots),
      c.settle.ensures.room ∙ l.invariant.1,
      c.take.ensures.frame ∙ c.next_step.ensures.frame ∙ l.invariant.2,
    )

pub returns-in_default : goal.returns-in_default
returns-in_default g c =
    let lots = g.B.SimpleBook.lots in
    let of = c.args.self.now in
    let l = c.loop-records in
    let os = items l.orders in
    record {
      equation = going_all (strategy_legs of.strategy) of.number _ c.args.out.now l.out l.records (trading os (lots l.book)) l.invariant.0 (lots c.next_step.new.book) _ c.next_step.ensures.lots (set-get_or l.out l.records _) c.in_default.ensures.answer c.loop-records-test.true;
      room = l.invariant.1;
      frame = c.next_step.ensures.frame ∙ l.invariant.2;
    }

pub returns : goal.returns
returns g c =
    let lots = g.B.SimpleBook.lots in
    let of = c.args.self.now in
    let l = c.loop-records in
    record {
      equation = going_full (strategy_legs of.strategy) of.number _ c.args.out.now l.out l.records (trading (items l.orders) (lots l.book)) l.invariant.0 c.loop-records-test.false;
      room = l.invariant.1;
      frame = l.invariant.2;
    }
