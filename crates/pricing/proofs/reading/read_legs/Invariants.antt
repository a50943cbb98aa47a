use Rattle.std.proofs.Common.{◌≡◌, true, length, take, drop}
use Rattle.pricing.specs.Sound.{legs_sound}
use Rattle.pricing.specs.Reading.{markets_of}
use Rattle.pricing.proofs.Marketing.{prefixed}
use Rattle.pricing.proofs.reading.read_legs.Given as goal

abbrev pub invariant-loop-i : goal.invariant-loop-i
invariant-loop-i g l =
    let lots = g.B.SimpleBook.lots in
    let frame = g.B.SimpleBook.frame in
    (lots l.book ≡ lots l.initial.book)
    × (frame l.book ≡ frame l.initial.book)
    × (markets_of (lots l.initial.book) l.legs ≡ prefixed (take l.i l.four) (markets_of (lots l.initial.book) (drop l.i l.legs)))
    × (legs_sound (take l.i l.four) ≡ true)
    × (length l.four ≡ 4)
