use Rattle.std.proofs.Common.{◌≢◌, ◌≡◌, length, sym, subst, rules, tests, arith}
use Rattle.std.proofs.lemmas.List.{take_all}
use Rattle.std.proofs.lemmas.Iterator.{IsFirst-from_position, YieldsList-from_slice}
use Rattle.std.proofs.option.Match.{if_some, if_none}
use Rattle.std.specs.List.{AllWithin}
use Rattle.text.specs.Words.{Without}
use Rattle.text.proofs.Parts.{no_parts, none_before, cut_at, found}
use Rattle.text.proofs.words.split_once.Goals as goal

pub returns-in_err-i : goal.returns-in_err-i
returns-in_err-i c =
    let mark = c.args.mark in
    let word = c.args.word.now in
    let passed : AllWithin (λ b. b ≢ mark) word 0 (length word) = if_none _ _ c.in_err-i.was (IsFirst-from_position _ _ _ (λ b. b ≡ mark) (λ b. b ≢ mark) c.position.ensures.ran (YieldsList-from_slice _ c.iter.ensures.rest) (λ x q k. search (rules, tests)) (λ x q k. search (rules, tests))) in
    let none : Without mark word = subst (Without mark) (take_all (length word) word (omega arith)) (none_before mark word (length word) (omega arith) passed) in
    rw c.from_residual.ensures (record { answer = sym (no_parts mark word none); parts = none })

pub returns : goal.returns
returns c =
    let mark = c.args.mark in
    let word = c.args.word.now in
    let i = c.in_ok-i.i in
    let first = if_some _ _ _ c.in_ok-i.was (IsFirst-from_position _ _ _ (λ b. b ≡ mark) (λ b. b ≢ mark) c.position.ensures.ran (YieldsList-from_slice _ c.iter.ensures.rest) (λ x q k. search (rules, tests)) (λ x q k. search (rules, tests))) in
    let cut = cut_at mark word i first.0 (first.1 0) (none_before mark word i (omega (arith, first.0)) first.2) in
    record { answer = found _ _ _ _ cut; parts = (cut.whole, cut.first) }
