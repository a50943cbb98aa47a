-- The names of the stations, as programs print them.
use Rattle.std.specs.Prelude.{List, ℕ, codes}
use Rattle.refusals.specs.declared.station.Station.{Station}
use Rattle.refusals.specs.declared.station.Station.TheVariants.{Opening, Reader, Writer, Define, Place, Evaluate, Net, Cancel, Display, Quote, Post, Withdraw, Take, Hold, Release}

abbrev pub name_of : Station → List ℕ
name_of Opening = codes "opening"
name_of Reader = codes "reader"
name_of Writer = codes "writer"
name_of Define = codes "define"
name_of Place = codes "place"
name_of Evaluate = codes "evaluate"
name_of Net = codes "net"
name_of Cancel = codes "cancel"
name_of Display = codes "display"
name_of Quote = codes "quote"
name_of Post = codes "post"
name_of Withdraw = codes "withdraw"
name_of Take = codes "take"
name_of Hold = codes "hold"
name_of Release = codes "release"
