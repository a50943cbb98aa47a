-- What a hold layer leaves of the book below.
use Rattle.std.specs.Prelude.{ℕ, Bool, false, cond, ◌&&◌, List, [], replicate, Ok, Err, ◌==◌, nat_le, nat_lt, slice_index_or}
use Rattle.refusals.specs.declared.reason.Reason.TheVariants.{NoSeries}
use Rattle.refusals.specs.declared.station.Station.{Station}
use Rattle.refusals.specs.Refusals.{refused_at}
use Rattle.simple.specs.declared.lot.Side.{Side}
use Rattle.simple.specs.declared.lot.Lot.{Lot}
use Rattle.holds.specs.declared.layer.HoldLayer.{HoldLayer}
use Rattle.simple.specs.Limits.{last_series, series_count}
use Rattle.simple.specs.Lots.{Lots}
use Rattle.simple.specs.Take.{Done}

-- for each series whether it is on hold
abbrev pub Marks : Type 0
Marks = List Bool

-- no series on hold
unfoldable pub no_marks : Marks
no_marks = replicate series_count false

-- only a series that a book can carry is ever on hold
abbrev pub on_hold : Marks → ℕ → Bool
on_hold m s = nat_le s last_series && slice_index_or m s false

-- the marks once one is set or cleared
abbrev pub re_marked : Marks → ℕ → Bool → ℕ → Bool
re_marked m s v = λ s'. cond (s' == s) v (on_hold m s')

-- a series on hold has two empty sides; every other is as below
abbrev pub shown : Marks → Lots → Lots
shown m b s d = cond (on_hold m s) [] (b s d)

-- the lots that the layer hides
abbrev pub hidden : Marks → Lots → Lots
hidden m b s d = cond (on_hold m s) (b s d) []

-- the two sides of one series replaced
abbrev pub with_series : Lots → ℕ → (Side → List Lot) → Lots
with_series b s sides = λ s' d. cond (s' == s) (sides d) (b s' d)

-- a series with two empty sides
abbrev pub no_lots : Side → List Lot
no_lots d = []

-- what best and take through the layer never change: its marks, the lots that it hides, and what they do not change below
pub record HoldFrame (Below : Type 0) : Type 0 where
  pub marks : Marks
  pub hidden : Lots
  pub below : Below

abbrev pub hold_frame : {F : Type 0} → Marks → Lots → F → HoldFrame F
hold_frame m b f = record { marks = m; hidden = hidden m b; below = f }

-- what stands below: what the layer hides of a series on hold, and what it shows of every other
abbrev pub beneath : {F : Type 0} → HoldFrame F → Lots → Lots
beneath f seen s d = cond (on_hold f.marks s) (f.hidden s d) (seen s d)

-- hold and release refuse only a series that no book carries
abbrev pub mark_answer : Station → ℕ → Done
mark_answer at s = cond (nat_lt last_series s) (Err (refused_at at NoSeries)) (Ok tt)

-- what a layer means, by what the book below means
module _ {B : Type 0} (lots : B → Lots) where
  abbrev pub layer_lots : HoldLayer B → Lots
  layer_lots h = shown h.marks (lots h.book)

  abbrev pub layer_frame : {F : Type 0} → (B → F) → HoldLayer B → HoldFrame F
  layer_frame frame h = hold_frame h.marks (lots h.book) (frame h.book)
