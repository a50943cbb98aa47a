-- What a refused call answers, and what is printed of it.
use Rattle.std.specs.Prelude.{ℕ, cond, List, [], ◌++◌, codes, decimal, ◌==◌}
use Rattle.refusals.specs.declared.reason.Reason.{Reason}
use Rattle.refusals.specs.declared.reason.Reason.TheVariants.{Field}
use Rattle.refusals.specs.declared.station.Station.{Station}
use Rattle.refusals.specs.declared.refusal.Refusal.{Refusal}
use Rattle.refusals.specs.Reasons.{number_of}
use Rattle.refusals.specs.Stations.{name_of}

-- a refusal that names no bit
abbrev pub refused_at : Station → Reason → Refusal
refused_at at why = record { station = at; reason = why; bit = 0 }

-- a refusal names its station, its number and, for a field, the bit place
abbrev pub bit_text : Refusal → List ℕ
bit_text r = cond (number_of r.reason == number_of Field) (codes " bit " ++ decimal r.bit) []

abbrev pub refusal_text : Refusal → List ℕ
refusal_text r = codes "refused " ++ (name_of r.station ++ (codes " " ++ (decimal (number_of r.reason) ++ bit_text r)))
