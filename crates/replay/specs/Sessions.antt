-- What each line of a session is answered with, and what it leaves.
use Rattle.std.specs.Prelude.{ℕ, Ok, Err, Result}
use Rattle.refusals.specs.declared.refusal.Refusal.{Refusal}
use Rattle.boards.specs.declared.board.QuoteBoard.{QuoteBoard}
use Rattle.simple.specs.Lots.{Lots}
use Rattle.simple.specs.Take.{after}
use Rattle.boards.specs.Board.{board_lots, quote_answer, quoted}
use Rattle.holds.specs.Hold.{Marks}
use Rattle.depth.specs.declared.depth.DepthBook.{DepthBook}
use Rattle.depth.specs.Lots.{lots_of}
use Rattle.depth.specs.Meaning.{standing, depth_lots, posted_count, places}
use Rattle.depth.specs.Post.{post_answer, with_lot}
use Rattle.depth.specs.Withdraw.{withdraw_answer, without_lot}
use Rattle.replay.specs.declared.answer.Answer.{Answer}
use Rattle.replay.specs.declared.answer.Answer.TheVariants.{Done, Lot as lot, Refused, Wrong}
use Rattle.replay.specs.declared.answer.Complaint.{Complaint}
use Rattle.replay.specs.declared.answer.Complaint.TheVariants.{Unopened, Unfit}
use Rattle.replay.specs.declared.command.BookCall.{BookCall}
use Rattle.replay.specs.declared.command.BookCall.TheVariants.{Quote, Post, Withdraw}
use Rattle.replay.specs.declared.command.Command.{Command}
use Rattle.replay.specs.declared.command.Command.TheVariants.{Open, ToBook, ToLayer}
use Rattle.replay.specs.declared.command.Entry.{Entry}
use Rattle.replay.specs.Calls.{done_answer, layer_answer, layer_leaves, marks_after}

-- what a book's own calls are answered with, and the lists that they leave
abbrev pub CallAnswers : Type 0
CallAnswers = BookCall → Answer

abbrev pub CallLists : Type 0
CallLists = BookCall → Lots

-- before the first book is opened, a line that opens none is an error
abbrev pub unopened_answer : Result Command Complaint → Answer
unopened_answer (Ok (Open k)) = Done
unopened_answer (Ok (ToBook c)) = Wrong Unopened
unopened_answer (Ok (ToLayer c)) = Wrong Unopened
unopened_answer (Err e) = Wrong e

-- the answer by the book's own calls and by the lists that its layer shows
abbrev pub said_answer : CallAnswers → Lots → Result Command Complaint → Answer
said_answer own seen (Ok (Open k)) = Done
said_answer own seen (Ok (ToBook c)) = own c
said_answer own seen (Ok (ToLayer c)) = layer_answer seen c
said_answer own seen (Err e) = Wrong e

-- the lists of the book afterwards; a line that is an error changes nothing
abbrev pub said_leaves : CallLists → Marks → Lots → Result Command Complaint → Lots
said_leaves own m b (Ok (Open k)) = b
said_leaves own m b (Ok (ToBook c)) = own c
said_leaves own m b (Ok (ToLayer c)) = layer_leaves m b c
said_leaves own m b (Err e) = b

-- the marks afterwards
abbrev pub said_marks : Marks → Result Command Complaint → Marks
said_marks m (Ok (Open k)) = m
said_marks m (Ok (ToBook c)) = m
said_marks m (Ok (ToLayer c)) = marks_after m c
said_marks m (Err e) = m

-- a board has quotes alone
abbrev pub board_answers : QuoteBoard → CallAnswers
board_answers b (Quote e) = done_answer (quote_answer e.series e.lot)
board_answers b (Post e) = Wrong Unfit
board_answers b (Withdraw n) = Wrong Unfit

abbrev pub board_leaves : QuoteBoard → CallLists
board_leaves b (Quote e) = after (quote_answer e.series e.lot) (quoted (board_lots b) e.series e.side e.lot) (board_lots b)
board_leaves b (Post e) = board_lots b
board_leaves b (Withdraw n) = board_lots b

-- the number of the lot that was posted, or why it was refused
abbrev pub posted_answer : Result ℕ Refusal → Answer
posted_answer (Ok n) = lot n
posted_answer (Err r) = Refused r

-- a depth book has posts and withdrawals
abbrev pub post_of : DepthBook → Entry → Result ℕ Refusal
post_of b e = post_answer (places b) (standing b) (posted_count b) e.series e.side e.lot

abbrev pub depth_answers : DepthBook → CallAnswers
depth_answers b (Quote e) = Wrong Unfit
depth_answers b (Post e) = posted_answer (post_of b e)
depth_answers b (Withdraw n) = done_answer (withdraw_answer n (standing b))

abbrev pub depth_leaves : DepthBook → CallLists
depth_leaves b (Quote e) = depth_lots b
depth_leaves b (Post e) = after (post_of b e) (with_lot (depth_lots b) e.series e.side e.lot) (depth_lots b)
depth_leaves b (Withdraw n) = lots_of (without_lot n (standing b))
