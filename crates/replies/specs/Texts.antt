-- What ends a line that is printed.
use Rattle.std.specs.Prelude.{ℕ, List, codes}

abbrev pub newline : List ℕ
newline = codes "\n"
