-- The side is written with one of its two quotes set.
use Rattle.std.proofs.Common.{◌≡◌, ap, ◌∙◌, rules}
use Rattle.simple.specs.Lots.{with_side}
use Rattle.boards.specs.Board.{board_lots, requoted, quoted}
use Rattle.boards.proofs.Requotes.{quote_sets}
use Rattle.boards.proofs.board.QuoteBoard.quote.Goals as goal

pub returns : goal.returns
returns c =
    let b = board_lots c.args.self.now in
    let s = c.args.series in
    let d = c.args.side in
    let l = c.args.lot in
    let lots : board_lots c.put.new.self ≡ quoted b s d l = c.put.ensures ∙ ap (with_side b s d) (c.with.ensures d ∙ ap (requoted d l) c.quotes-quotes.ensures) in
    record { answer = search rules; lots = lots; sets = quote_sets b (board_lots c.put.new.self) s d l lots }
