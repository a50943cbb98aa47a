use Rattle.ranked.specs.Held.{items}
use Rattle.depth.proofs.Removes.{place_tells}
use Rattle.depth.proofs.depth.DepthBook.place_of.Goals as goal

pub returns : goal.returns
returns c =
    let told = place_tells c.args.number (items c.args.self.now.lots) c.find.result c.find.ensures.found in
    record { stands = told.0; found = told.1 }
