-- The side that is written is the one that shows the quotes.
use Rattle.std.proofs.Common.{◌<◌, length, set, sym, ap, ◌∙◌, rules}
use Rattle.std.proofs.lemmas.List.{get_or_read}
use Rattle.simple.specs.declared.lot.Side.TheVariants.{Bid, Offer}
use Rattle.simple.specs.Lots.{with_side}
use Rattle.boards.specs.declared.quote.Sides.{Sides}
use Rattle.boards.specs.Board.{board_lots, side_lots, no_sides}
use Rattle.boards.proofs.Boards.{board_put}
use Rattle.boards.proofs.board.QuoteBoard.put.Goals as goal

pub returns-in-Bid : goal.returns-in-Bid
returns-in-Bid c =
    let b = c.args.self.now in
    let s = c.args.series in
    let q = c.args.quotes in
    let t = c.index-self-series.result in
    let long : s < length b.series = search rules in
    let here = sym c.index-self-series.is ∙ get_or_read b.series s t long c.index-self-series.is no_sides in
    ap (λ (u : Sides). board_lots (record { series = set b.series s (record { bids = q; offers = u.offers }) })) here
    ∙ board_put b s q c.requires long Bid
    ∙ ap (λ d. with_side (board_lots b) s d (side_lots d q)) (sym c.in-Bid.is)

pub returns-in-Offer : goal.returns-in-Offer
returns-in-Offer c =
    let b = c.args.self.now in
    let s = c.args.series in
    let q = c.args.quotes in
    let t = c.index-self-series-in-Offer.result in
    let long : s < length b.series = search rules in
    let here = sym c.index-self-series-in-Offer.is ∙ get_or_read b.series s t long c.index-self-series-in-Offer.is no_sides in
    ap (λ (u : Sides). board_lots (record { series = set b.series s (record { bids = u.bids; offers = q }) })) here
    ∙ board_put b s q c.requires long Offer
    ∙ ap (λ d. with_side (board_lots b) s d (side_lots d q)) (sym c.in-Offer.is)
