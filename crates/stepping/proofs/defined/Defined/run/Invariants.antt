-- `run`: the records written, and the steps that are left.
use Rattle.std.proofs.Common.{◌≡◌, length}
use Rattle.ranked.specs.Held.{items, room}
use Rattle.strategies.specs.Strategies.{strategy_legs}
use Rattle.rules.specs.Steps.{trading, steps}
use Rattle.stepping.proofs.Going.{Going}
use Rattle.stepping.proofs.defined.Defined.run.Given as goal

abbrev pub invariant-loop-records : goal.invariant-loop-records
invariant-loop-records g l =
    let lots = g.B.SimpleBook.lots in
    let frame = g.B.SimpleBook.frame in
    let legs = strategy_legs l.self.strategy in
    Going legs l.self.number (steps legs l.self.number (length l.initial.out) (trading (items l.initial.orders) (lots l.initial.book))) l.initial.out l.out l.records (trading (items l.orders) (lots l.book))
    × (room l.orders ≡ room l.initial.orders)
    × (frame l.book ≡ frame l.initial.book)
