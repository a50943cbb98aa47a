-- What a ranked list holds.
use Rattle.std.specs.Prelude.{ℕ, List, length, take}
use Rattle.ranked.specs.declared.list.RankedList.{RankedList}

-- its entries, in order: the first slots, as many as it counts
abbrev pub items : {X : Type 0} → RankedList X → List X
items l = take l.len l.slots.now

-- how many entries it has room for
abbrev pub room : {X : Type 0} → RankedList X → ℕ
room l = length l.slots.now
