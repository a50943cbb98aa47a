use Rattle.std.proofs.Common.{ℕ, List, ◌++◌, get_or, sym, ap, ◌∙◌}
use Rattle.hex_bytes.specs.Bytes.{hex_of}
use Rattle.gateway.proofs.Shown.{bytes_more}
use Rattle.gateway.proofs.answers.bytes_text.Goals as goal

pub loop-i-preserved : goal.loop-i-preserved
loop-i-preserved c =
    let bs = c.args.bytes.now in
    let i = c.loop-i.i in
    let gap = c.in_ok-push_str.ensures.bytes ∙ (λ k. c.loop-i.invariant k ++ c.gap_before.ensures k) in
    c.in_ok-push_hex_byte.ensures.written ∙ ap (λ (t : List ℕ). t ++ hex_of (get_or bs i 0)) gap ∙ sym (bytes_more bs i c.loop-i-test.true)
