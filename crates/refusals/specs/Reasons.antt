-- The numbers of the refusal table, each said once.
use Rattle.std.specs.Prelude.{ℕ}
use Rattle.refusals.specs.declared.reason.Reason.{Reason}
use Rattle.refusals.specs.declared.reason.Reason.TheVariants.{Memory, Length, Edition, Kind, Field, Unwritable, LegCount, Series, Ratio, SameLegs, TableFull, Strategy, Quantity, Limit, BookFull, NumbersSpent, NotResting, NoSeries, TooMany, BadLot, LotsFull, LotNumbersSpent, NoLot}

abbrev pub number_of : Reason → ℕ
-- the reader and the writer of messages
number_of Length = 1
number_of Edition = 2
number_of Kind = 3
number_of Field = 4
number_of Unwritable = 5
-- strategies
number_of LegCount = 11
number_of Series = 12
number_of Ratio = 13
number_of SameLegs = 14
number_of TableFull = 15
-- orders
number_of Strategy = 21
number_of Quantity = 22
number_of Limit = 23
number_of BookFull = 24
number_of NumbersSpent = 25
number_of NotResting = 31
-- simple books
number_of NoSeries = 41
number_of TooMany = 42
number_of BadLot = 43
number_of LotsFull = 44
number_of LotNumbersSpent = 45
number_of NoLot = 46
-- memory that a book or an engine is opened on
number_of Memory = 51
