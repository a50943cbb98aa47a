-- Each place of the row has no quote.
use Rattle.boards.proofs.Boards.{row_none}
use Rattle.boards.proofs.board.no_quotes.Goals as goal

pub returns : goal.returns
returns c = row_none c.none.result c.none-2.result c.none.ensures c.none-2.ensures
