-- What is printed of the leg of a definition.
use Rattle.std.specs.Prelude.{ℕ, List, ◌++◌, codes, decimal}
use Rattle.contents.specs.declared.message.LegFields.{LegFields}
use Rattle.contents.specs.Sides.{sign_text}

-- a leg by its series, the sign of its side and its ratio
abbrev pub leg_text : LegFields → List ℕ
leg_text l = decimal l.series ++ (codes ":" ++ (sign_text l.side ++ decimal l.ratio))
