-- The numbers of a message that was read fit the arguments of the call that it asks for.
use Rattle.std.specs.Prelude.{◌≡◌, ◌^◌, ◌<◌, List, length, All, Ok, Err, Result}
use Rattle.refusals.specs.declared.refusal.Refusal.{Refusal}
use Rattle.contents.specs.declared.message.LegFields.{LegFields}
use Rattle.contents.specs.declared.message.PlaceFields.{PlaceFields}
use Rattle.contents.specs.declared.message.Message.{Message}
use Rattle.contents.specs.declared.message.Message.TheVariants.{Place, Cancel, Evaluate, Define}
use Rattle.rules.specs.declared.answer.Intake.{Intake}
use Rattle.rules.specs.declared.answer.Intake.TheVariants as intake
use Rattle.rules.specs.Events.{Answer, defined, placed, evaluated, cancelled, refused}

abbrev pub NarrowLeg : LegFields → Type 0
NarrowLeg l = (l.series < 2 ^ 32) × (l.ratio < 2 ^ 32)

abbrev pub NarrowLegs : List LegFields → Type 0
NarrowLegs ls = (length ls ≡ 4) × All NarrowLeg ls

abbrev pub NarrowOrder : PlaceFields → Type 0
NarrowOrder o = (o.strategy < 2 ^ 32) × (o.quantity < 2 ^ 32)

abbrev pub Narrow : Message → Type 0
Narrow (Place order) = NarrowOrder order
Narrow (Cancel number) = number < 2 ^ 32
Narrow (Evaluate strategy) = strategy < 2 ^ 32
Narrow (Define row) = (row.count < 2 ^ 32) × NarrowLegs row.legs

-- what the call answered that a message asked for
abbrev pub answer_asked : Result Intake Refusal → Answer
answer_asked (Ok (intake.Defined n)) = defined n
answer_asked (Ok (intake.Placed p)) = placed p
answer_asked (Ok (intake.Evaluated v)) = evaluated v
answer_asked (Ok (intake.Cancelled q)) = cancelled q
answer_asked (Err why) = refused why
