use Rattle.std.proofs.Common.{◌≡◌, ℕ, ◌+◌, ◌-◌, ◌*◌, ◌^◌, ◌≤◌, ap, ◌∙◌, arith, pow_mono, shl_lt, shl_exact}
use Rattle.messages.proofs.writer.placed.Goals as goal

pub returns : goal.returns
returns c =
    let v = c.args.value in
    let w = c.args.width in
    let k = 112 - c.args.place - w in
    let e : k ≡ 112 - (c.args.place + w) = omega arith in
    let top : w + k ≤ 112 = omega arith in
    let exact = shl_exact w k 128 c.requires.fits (omega arith) in
    record {
      image = exact ∙ ap (λ (x : ℕ). v * 2 ^ x) e;
      bound = omega (arith, exact, shl_lt w k c.requires.fits, pow_mono top);
    }
