use Rattle.std.proofs.Common.{ℕ, ap}
use Rattle.ranked.specs.Held.{items}
use Rattle.depth.proofs.Removes.{withdrawn, others_left, kept_left}
use Rattle.depth.proofs.depth.DepthBook.remove.Goals as goal

pub invariant_of-self : goal.invariant_of-self
invariant_of-self c =
    let book = c.args.self.now in
    record {
      sound = kept_left c.args.number (items book.lots) c.args.place c.requires.0 c.requires.1 c.requires.2
          (items c.remove.new.self) c.remove.result c.remove.ensures.answer c.remove.ensures.items c.remove.ensures.laws book.posted book.sound;
    }

pub returns : goal.returns
returns c =
    let book = c.args.self.now in
    record {
      standing = others_left c.args.number (items book.lots) c.args.place c.requires.0 c.requires.1 c.requires.2
          (items c.remove.new.self) c.remove.result c.remove.ensures.answer c.remove.ensures.items c.remove.ensures.laws book.posted book.sound;
      moved = withdrawn c.args.number (items book.lots) c.args.place c.requires.0 c.requires.1 c.requires.2
          (items c.remove.new.self) c.remove.result c.remove.ensures.answer c.remove.ensures.items;
      counts = ap (λ (k : ℕ). (book.posted, k)) c.remove.ensures.room;
    }
