-- The codes that stand for times in force, each said once.
use Rattle.std.specs.Prelude.{ℕ, cond, Some, None, Option, ◌==◌}
use Rattle.contents.specs.declared.time.TimeInForce.{TimeInForce}
use Rattle.contents.specs.declared.time.TimeInForce.TheVariants.{Day, ImmediateOrCancel}

abbrev pub time_code : TimeInForce → ℕ
time_code Day = 0
time_code ImmediateOrCancel = 1

-- the time in force that has a code
abbrev pub time_coded : ℕ → Option TimeInForce
time_coded n =
    cond (n == time_code Day) (Some Day)
    (cond (n == time_code ImmediateOrCancel) (Some ImmediateOrCancel)
    None)
