use Rattle.ranked.specs.Held.{items, room}
use Rattle.depth.proofs.Admits.{admitted, kept_posted, posted_next, posted_lots}
use Rattle.depth.proofs.depth.DepthBook.put.Goals as goal

pub invariant_of-self : goal.invariant_of-self
invariant_of-self c =
    let was = c.args.self.now in
    record {
      sound = kept_posted (room was.lots) (items was.lots) was.posted c.args.series c.args.side c.args.lot c.args.number c.requires
          c.insert.result c.insert.ensures.answer (items c.insert.new.self) c.insert.ensures.items c.insert.ensures.laws was.sound;
    }

pub returns : goal.returns
returns c =
    let was = c.args.self.now in
    let lot = c.args.lot in
    let granted = c.requires in
    record {
      standing = posted_next (room was.lots) (items was.lots) was.posted c.args.series c.args.side lot c.args.number granted
          c.insert.result c.insert.ensures.answer (items c.insert.new.self) c.insert.ensures.items;
      lots = posted_lots (room was.lots) (items was.lots) was.posted c.args.series c.args.side lot c.args.number granted
          c.insert.result c.insert.ensures.answer (items c.insert.new.self) c.insert.ensures.items was.sound;
      posted = (admitted (room was.lots) (items was.lots) was.posted c.args.series c.args.side lot c.args.number granted).number;
      places = c.insert.ensures.room;
    }
