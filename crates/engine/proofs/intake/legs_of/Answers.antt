use Rattle.std.proofs.Common.{suc, ◌<◌, List, [], ◌∷◌, length, map, All, sym, subst, ◌∙◌, arith, ext_get_or}
use Rattle.std.specs.Iterator.{Yields}
use Rattle.std.specs.Array.{list_steps}
use Rattle.std.proofs.lemmas.List.{get_or-map, length-map}
use Rattle.contents.specs.declared.message.LegFields.{LegFields}
use Rattle.messages.specs.Writing.{no_leg}
use Rattle.rules.specs.Events.{leg_said}
use Rattle.engine.specs.Messages.{NarrowLeg}
use Rattle.engine.proofs.intake.legs_of.Goals as goal

-- the legs that are left are narrow as all were
left_narrow : (ls xs t : List LegFields) → All NarrowLeg ls → Yields list_steps ls xs t → All NarrowLeg t
left_narrow ls [] t all y = subst (All NarrowLeg) y all
left_narrow ls (x ∷ xs) t all y = left_narrow y.0 xs t (λ k d h. subst (All NarrowLeg) y.1 all (suc k) d (omega arith)) y.2

pub map-requires : goal.map-requires
map-requires c =
    (omega arith, (omega arith, (omega arith, record { at = λ xs t q x u y f s. subst (All NarrowLeg) s (left_narrow c.args.fields xs t c.requires.1 y) 0 x (omega arith) })))

pub returns : goal.returns
returns c =
    let ls = c.args.fields in
    ext_get_or (leg_said no_leg) c.map.result (map leg_said ls) (c.map.ensures.items.long ∙ sym c.requires.0 ∙ sym (length-map ls leg_said))
    (λ i h.
    let lt : i < length ls = omega (arith, c.map.ensures.items.long, c.requires.0) in
    (c.map.ensures.items.at i no_leg (leg_said no_leg) (omega (arith, c.map.ensures.items.long))).2.met ∙ sym (get_or-map leg_said ls i no_leg (leg_said no_leg) lt))
