-- `is_ahead`: the keys in their order.
use Rattle.std.proofs.Common.{pos, ◌∙◌}
use Rattle.ranked.specs.Lex.{better}
use Rattle.lots.specs.Rank.{is_bid}
use Rattle.lots.proofs.Keys.{keys_compare}
use Rattle.lots.proofs.posted.PostedLotRanked.is_ahead.Goals as goal

pub returns : goal.returns
returns c =
    let x = c.args.self.now in
    let y = c.args.other.now in
    let k = c.key.ensures in
    let l = c.key-2.ensures in
    c.lt.ensures
    ∙ rw (k.series, k.offer, k.price, k.maker, k.number, l.series, l.offer, l.price, l.maker, l.number)
    (keys_compare x.series y.series (is_bid x.side) (is_bid y.side) (better (is_bid x.side) (pos x.lot.price)) (better (is_bid y.side) (pos y.lot.price)) x.lot.customer y.lot.customer x.number y.number)
