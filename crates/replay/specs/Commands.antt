-- What the words of a line ask for.
use Rattle.std.specs.Prelude.{ℕ, ◌^◌, Bool, true, false, cond, List, length, drop, Some, None, Ok, Err, codes, Option, Result, ◌==◌, nat_lt}
use Rattle.std.specs.Str.{bytes_eq}
use Rattle.simple.specs.declared.lot.Side.{Side}
use Rattle.simple.specs.declared.lot.Side.TheVariants.{Bid, Offer}
use Rattle.simple.specs.Lots.{lot_at}
use Rattle.numbers.specs.Numbers.{number_in}
use Rattle.lines.specs.Words.{word}
use Rattle.replay.specs.declared.answer.Complaint.{Complaint}
use Rattle.replay.specs.declared.answer.Complaint.TheVariants.{Unknown, Misworded}
use Rattle.replay.specs.declared.command.BookCall.TheVariants.{Quote, Post, Withdraw}
use Rattle.replay.specs.declared.command.Command.{Command}
use Rattle.replay.specs.declared.command.Command.TheVariants.{Open, ToBook, ToLayer}
use Rattle.replay.specs.declared.command.Entry.{Entry}
use Rattle.replay.specs.declared.command.Kind.{Kind}
use Rattle.replay.specs.declared.command.Kind.TheVariants.{Board, Depth}
use Rattle.replay.specs.declared.command.LayerCall.{LayerCall}
use Rattle.replay.specs.declared.command.LayerCall.TheVariants.{Best, Take, Hold, Release}

-- what follows from a part, if there is one
abbrev pub then : {A B : Type 0} → Option A → (A → Option B) → Option B
then None next = None
then (Some a) next = next a

-- a number is decimal digits and within 32 bits
abbrev pub within_32 : ℕ → Option ℕ
within_32 n = cond (nat_lt n (2 ^ 32)) (Some n) None

abbrev pub small_in : List ℕ → Option ℕ
small_in w = then (number_in w) within_32

-- a side is `bid` or `offer`
abbrev pub side_in : List ℕ → Option Side
side_in w = cond (bytes_eq w (codes "bid")) (Some Bid) (cond (bytes_eq w (codes "offer")) (Some Offer) None)

-- a class is `customer` or `maker`: whether a Priority Customer is meant
abbrev pub class_in : List ℕ → Option Bool
class_in w = cond (bytes_eq w (codes "customer")) (Some true) (cond (bytes_eq w (codes "maker")) (Some false) None)

-- a book is a `board` or a `depth` book
abbrev pub kind_in : List ℕ → Option Kind
kind_in w = cond (bytes_eq w (codes "board")) (Some Board) (cond (bytes_eq w (codes "depth")) (Some Depth) None)

-- `quote` and `post` take a series, a side, a class, a price and a size
abbrev pub entry_in : List ℕ → List ℕ → List ℕ → List ℕ → List ℕ → Option Entry
entry_in series side class price size =
    then (small_in series) (λ s. then (side_in side) (λ d. then (class_in class) (λ c. then (small_in price) (λ p. then (small_in size) (λ n. Some (record { series = s; side = d; lot = lot_at p n c }))))))

abbrev pub entry_words : List (List ℕ) → Option Entry
entry_words ws = cond (length ws == 5) (entry_in (word ws 0) (word ws 1) (word ws 2) (word ws 3) (word ws 4)) None

-- `withdraw` takes the number of a lot, `hold` and `release` a series, and `book` a kind: each one word
abbrev pub only : List (List ℕ) → Option (List ℕ)
only ws = cond (length ws == 1) (Some (word ws 0)) None

abbrev pub number_words : List (List ℕ) → Option ℕ
number_words ws = then (only ws) small_in

abbrev pub book_words : List (List ℕ) → Option Kind
book_words ws = then (only ws) kind_in

-- `best` takes a series and a side, and `take` a quantity besides
abbrev pub best_words : List (List ℕ) → Option LayerCall
best_words ws = cond (length ws == 2) (then (small_in (word ws 0)) (λ s. then (side_in (word ws 1)) (λ d. Some (Best s d)))) None

abbrev pub take_in : List ℕ → List ℕ → List ℕ → Option LayerCall
take_in series side quantity = then (small_in series) (λ s. then (side_in side) (λ d. then (small_in quantity) (λ q. Some (Take s d q))))

abbrev pub take_words : List (List ℕ) → Option LayerCall
take_words ws = cond (length ws == 3) (take_in (word ws 0) (word ws 1) (word ws 2)) None

-- a command is its name and the words that it takes
abbrev pub worded : {A : Type 0} → (A → Command) → Option A → Result Command Complaint
worded command None = Err Misworded
worded command (Some a) = Ok (command a)

abbrev pub book_call_in : List ℕ → List (List ℕ) → Result Command Complaint
book_call_in name ws =
    cond (bytes_eq name (codes "book")) (worded Open (book_words ws))
    (cond (bytes_eq name (codes "quote")) (worded (λ e. ToBook (Quote e)) (entry_words ws))
    (cond (bytes_eq name (codes "post")) (worded (λ e. ToBook (Post e)) (entry_words ws))
    (cond (bytes_eq name (codes "withdraw")) (worded (λ n. ToBook (Withdraw n)) (number_words ws))
    (Err Unknown))))

abbrev pub layer_call_in : List ℕ → List (List ℕ) → Result Command Complaint
layer_call_in name ws =
    cond (bytes_eq name (codes "best")) (worded ToLayer (best_words ws))
    (cond (bytes_eq name (codes "take")) (worded ToLayer (take_words ws))
    (cond (bytes_eq name (codes "hold")) (worded (λ s. ToLayer (Hold s)) (number_words ws))
    (cond (bytes_eq name (codes "release")) (worded (λ s. ToLayer (Release s)) (number_words ws))
    (book_call_in name ws))))

abbrev pub command_in : List (List ℕ) → Result Command Complaint
command_in ws = layer_call_in (word ws 0) (drop 1 ws)
