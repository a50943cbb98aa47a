use Rattle.std.proofs.Common.{ℕ, List, sym, refl, ap, ◌∙◌, subst}
use Rattle.ranked.specs.Held.{items}
use Rattle.depth.specs.Lots.{lots_of}
use Rattle.lots.specs.declared.posted.PostedLot.{PostedLot}
use Rattle.depth.specs.Take.{Taken}
use Rattle.depth.specs.Soundness.{sound_out}
use Rattle.depth.proofs.Trades.{taken_from, within_side}
use Rattle.depth.proofs.Changes.{take_meaning}
use Rattle.depth.proofs.Kept.{sorted_now, kept_taken}
use Rattle.depth.proofs.depth.DepthBook.reduce.Goals as goal

pub take-requires : goal.take-requires
take-requires c = sorted_now (items c.args.self.now.lots) _ c.args.self.now.posted c.args.self.now.sound refl

pub invariant_of-self : goal.invariant_of-self
invariant_of-self c = record { sound = kept_taken c.args.series c.args.side c.args.quantity _ _ c.args.self.now.posted c.take.ensures.items c.args.self.now.sound }

pub returns : goal.returns
returns c =
    let xs = items c.args.self.now.lots in
    let enough = within_side (lots_of xs) c.args.series c.args.side c.args.quantity c.requires in
    record {
      standing = c.take.ensures.items;
      moved = subst (λ (ys : List PostedLot). Taken c.args.series c.args.side c.args.quantity xs ys) (sym c.take.ensures.items) (taken_from c.args.series c.args.side c.args.quantity xs (sound_out xs c.args.self.now.posted c.args.self.now.sound).ranked enough);
      lots = ap lots_of c.take.ensures.items ∙ take_meaning c.args.series c.args.side c.args.quantity _;
      counts = ap (λ (k : ℕ). (c.args.self.now.posted, k)) c.take.ensures.room;
    }
