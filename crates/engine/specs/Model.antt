-- What an engine means: a state of the rules.
use Rattle.std.specs.Prelude.{◌==◌}
use Rattle.ranked.specs.Held.{items, room}
use Rattle.rules.specs.Limits.{order_places}
use Rattle.rules.specs.States.{State}
use Rattle.engine.specs.declared.held.Engine.{Engine}
use Rattle.engine.specs.Table.{rows_of}

abbrev pub model : Engine → State
model e = record { ready = (room e.orders == order_places); strategies = rows_of e.table; orders = items e.orders; accepted = e.accepted }
