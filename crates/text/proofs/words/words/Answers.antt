use Rattle.std.proofs.Common.{◌≡◌, sym, ◌∙◌, subst, vec_items, IfOk, rules, tests}
use Rattle.std.proofs.lemmas.Iterator.Splits.{YieldsList-from_slice_split}
use Rattle.std.proofs.lemmas.Iterator.Consumers.{map_from_collect, YieldsList-from_filter, YieldsList-at}
use Rattle.std.proofs.lemmas.Result.{IfOk-weaker}
use Rattle.std.specs.List.{filter, slice_split}
use Rattle.text.specs.Words.{separates, lent, Words}
use Rattle.text.proofs.Runs.{has_byte, has_byte_is, parts_are_words, words_run}
use Rattle.text.proofs.words.words.Goals as goal

pub returns : goal.returns
returns c =
    let line = c.args.line.now in
    let kept : IfOk c.collect.result (λ v. lent (vec_items v) ≡ filter has_byte (slice_split separates line)) =
    map_from_collect _ c.collect.ensures.ran
    (YieldsList-from_filter _ has_byte
    (YieldsList-at c.filter.ensures.source (YieldsList-from_slice_split _ separates line c.split.ensures.rest c.split.ensures.done c.split.ensures.closure (λ x r q k. search (rules, tests))))
    c.filter.ensures.closure (λ x r q k. search (rules, tests, has_byte_is))) in
    record {
      answer = IfOk-weaker c.collect.result _ _ (λ v h. h ∙ parts_are_words line) kept;
      runs = IfOk-weaker c.collect.result _ _ (λ v h. subst (Words line) (sym (h ∙ parts_are_words line)) (words_run line)) kept;
    }
