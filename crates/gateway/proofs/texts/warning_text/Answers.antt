use Rattle.std.proofs.Common.{◌≡◌, ◌++◌, codes, ap, ◌∙◌, Some, subst, w64, to_z, of_z, rules}
use Rattle.std.proofs.lemmas.Result.{IfOk-weaker}
use Rattle.std.specs.Fmt.{signed_decimal}
use Rattle.numbers.specs.Numbers.{signed_in}
use Rattle.numbers.proofs.Written.{signed_back}
use Rattle.gateway.specs.Texts.{reread, warning_text}
use Rattle.gateway.proofs.texts.warning_text.Goals as goal

pub returns-clause-text : goal.returns-clause-text
unfolding warning_text
returns-clause-text c =
    let z : to_z w64 (of_z w64 c.args.limit) ≡ c.args.limit = search rules in
    let y : to_z w64 (of_z w64 c.reread-again.result) ≡ c.reread-again.result = search rules in
    let again : to_z w64 (of_z w64 c.reread-again.result) ≡ reread c.args.limit = y ∙ c.reread-again.ensures ∙ ap reread z in
    IfOk-weaker c.format.result _ _ (λ t h. h ∙ (λ i. codes "warning limit " ++ (signed_decimal (z i) ++ (codes " is beyond 40000000, in edition 2 it reads " ++ signed_decimal (again i))))) c.format.ensures.ok

pub returns-clause-read_again : goal.returns-clause-read_again
returns-clause-read_again c = signed_back c.args.limit c.ranges.limit.sfits

pub returns-clause-reread_again : goal.returns-clause-reread_again
returns-clause-reread_again c =
    let z : to_z w64 (of_z w64 c.args.limit) ≡ c.args.limit = search rules in
    let again : c.reread-again.result ≡ reread c.args.limit = c.reread-again.ensures ∙ ap reread z in
    subst (λ n. signed_in (signed_decimal n) ≡ Some n) again (signed_back c.reread-again.result (search rules))
