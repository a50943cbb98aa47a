use Rattle.std.proofs.Common.{◌≡◌, ◌+◌, ◌*◌, ◌^◌, ◌≤◌, drop}
use Rattle.messages.proofs.Legs.{legs_fit, legs_image}
use Rattle.messages.proofs.writer.define_image.Given as goal

abbrev pub invariant-loop-i : goal.invariant-loop-i
invariant-loop-i l =
    (legs_fit l.count 0 l.legs ≡ legs_fit l.count l.i (drop l.i l.legs))
    × (l.image + legs_image l.count l.i (drop l.i l.legs) ≡ l.initial.image + legs_image l.count 0 l.legs)
    × (l.image ≤ 2 ^ 114 + l.i * 2 ^ 114)
