-- The lists of a layer are those that a simple book can have.
use Rattle.std.specs.Prelude.{◌≡◌, ◌≤◌, [], refl}
use Rattle.std.proofs.Common.{arith}
use Rattle.std.proofs.lemmas.Bool.{cond_both}
use Rattle.simple.specs.Limits.{side_limit}
use Rattle.simple.specs.Lots.{Lots, Ranked, contracts, Lawful}
use Rattle.holds.specs.Hold.{Marks, on_hold, shown}

pub shown_lawful : (m : Marks) (b : Lots) → Lawful b → Lawful (shown m b)
shown_lawful m b law = record {
  ranked = λ s d. cond_both (on_hold m s) [] (b s d) (Ranked d) (λ _. tt) (λ _. law.ranked s d);
  within = λ s d. cond_both (on_hold m s) [] (b s d) (λ ls. contracts ls ≤ side_limit) (λ _. omega arith) (λ _. law.within s d);
  listed = λ s d h. cond_both (on_hold m s) [] (b s d) (λ ls. ls ≡ []) (λ _. refl) (λ _. law.listed s d h);
}
