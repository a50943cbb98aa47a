-- What is printed of each answer.
use Rattle.std.specs.Prelude.{ℕ, List, ◌++◌, Some, None, codes, decimal, Option}
use Rattle.simple.specs.declared.lot.Best.{Best}
use Rattle.refusals.specs.Refusals.{refusal_text}
use Rattle.replies.specs.Texts.{newline}
use Rattle.replay.specs.declared.answer.Answer.{Answer}
use Rattle.replay.specs.declared.answer.Answer.TheVariants.{Done, Lot, Best as best, Refused, Wrong}
use Rattle.replay.specs.declared.answer.Complaint.{Complaint}
use Rattle.replay.specs.declared.answer.Complaint.TheVariants.{Unknown, Misworded, Unopened, Unfit}

abbrev pub complaint_text : Complaint → List ℕ
complaint_text Unknown = codes "unknown command"
complaint_text Misworded = codes "not the words that this command takes"
complaint_text Unopened = codes "no book is open"
complaint_text Unfit = codes "this kind of book has no such call"

abbrev pub best_text : Option Best → List ℕ
best_text None = codes "best none"
best_text (Some b) = codes "best price " ++ (decimal b.price ++ (codes " size " ++ (decimal b.size ++ (codes " customer " ++ decimal b.customer))))

-- the answer to the line of a number
abbrev pub answer_text : ℕ → Answer → List ℕ
answer_text n Done = codes "done"
answer_text n (Lot l) = codes "lot " ++ decimal l
answer_text n (best b) = best_text b
answer_text n (Refused r) = refusal_text r
answer_text n (Wrong c) = codes "error line " ++ (decimal n ++ (codes ": " ++ complaint_text c))

-- the words of the line come first, and the answer below them
abbrev pub reply_text : ℕ → List ℕ → Answer → List ℕ
reply_text n words a = codes "> " ++ (words ++ (newline ++ (answer_text n a ++ newline)))
