-- Every list of calls.
use Rattle.std.specs.Prelude.{◌≡◌, Bool, List, [], ◌∷◌, ◌++◌}
use Rattle.simple.specs.Lots.{Lawful}
use Rattle.rules.specs.States.{State, opened}
use Rattle.rules.specs.Events.{Event}
use Rattle.rules.specs.Calls.{did}

-- in the state s the call of the event answers, executes and leaves what the rules say, and the state t
abbrev pub Happens : State → Event → State → Type 0
Happens s e t = did s e.call e.before e.room ≡ record { answer = e.answer; executions = e.executions; after = e.after; next = t }

-- a list of calls from the opening of an engine on, each over any lists that a simple book can have
pub data Run : List Event → State → Type 0 where
  start : (ready : Bool) → Run [] (opened ready)
  further : {h : List Event} {s t : State} (e : Event) → Run h s → Lawful e.before → Happens s e t → Run (h ++ (e ∷ [])) t
