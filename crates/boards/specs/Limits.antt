-- The numbers of the rules on quote boards.
use Rattle.std.specs.Prelude.{ℕ}

-- a quote board carries the series from 0 to this
abbrev pub last_quoted : ℕ
last_quoted = 31

-- so that it carries this many
abbrev pub quoted_count : ℕ
quoted_count = 32
