-- What a depth book means: its numbered lots in rank, the lists of a simple book, and its counts.
use Rattle.std.specs.Prelude.{ℕ, List}
use Rattle.simple.specs.Lots.{Lots, Lawful}
use Rattle.ranked.specs.Held.{items, room}
use Rattle.lots.specs.declared.posted.PostedLot.{PostedLot}
use Rattle.depth.specs.declared.depth.DepthBook.{DepthBook}
use Rattle.depth.specs.Lots.{lots_of}
use Rattle.depth.specs.Soundness.{sound_out}
use Rattle.depth.specs.Lawfulness.{sound_lawful}

-- its lots with their numbers, in rank
abbrev pub standing : DepthBook → List PostedLot
standing b = items b.lots

-- its lots by series and side
abbrev pub depth_lots : DepthBook → Lots
depth_lots b = lots_of (standing b)

-- how many lots were ever posted to it
abbrev pub posted_count : DepthBook → ℕ
posted_count b = b.posted

-- how many places its memory has
abbrev pub places : DepthBook → ℕ
places b = room b.lots

-- what trading never changes
abbrev pub counts : DepthBook → ℕ × ℕ
counts b = (posted_count b, places b)

-- its lists are those that a simple book can have
pub depth_lawful : (b : DepthBook) → Lawful (depth_lots b)
depth_lawful b = sound_lawful (standing b) b.posted (sound_out (standing b) b.posted b.sound)
