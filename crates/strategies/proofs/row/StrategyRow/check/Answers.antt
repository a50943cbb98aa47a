-- `check`: the first rule that is broken, and that none is exactly where the row is lawful.
use Rattle.std.proofs.Common.{length, sym, ap, ◌∙◌, rules}
use Rattle.refusals.specs.declared.reason.Reason.TheVariants.{Ratio}
use Rattle.strategies.specs.Legs.{rising_from, ratios_lawful}
use Rattle.strategies.proofs.Checks.{ratio_fault, no_fault, exactly_some, exactly_none}
use Rattle.strategies.proofs.row.StrategyRow.check.Goals as goal

pub returns-then-not-ratios_lawful : goal.returns-then-not-ratios_lawful
returns-then-not-ratios_lawful c =
    let row = c.args.self.now in
    let same = c.counted-legs.ensures.value in
    let rises = c.if-not-series_rise.ensures ∙ ap (rising_from 0) same in
    let is = ratio_fault row (search rules) (search rules) rises (c.if-not-ratios_lawful.ensures ∙ ap ratios_lawful same) in
    record { answer = is; accepted = exactly_some row Ratio is }

pub returns : goal.returns
returns c =
    let row = c.args.self.now in
    let same = c.counted-legs.ensures.value in
    let rises = c.if-not-series_rise.ensures ∙ ap (rising_from 0) same in
    let is = no_fault row (search rules) (search rules) rises (c.if-not-ratios_lawful.ensures ∙ ap ratios_lawful same) in
    record { answer = is; accepted = exactly_none row (ap length (sym same) ∙ c.counted-legs.ensures.all) is }
