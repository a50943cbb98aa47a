-- What is there where a test holds.
use Rattle.std.proofs.Common.{◌≡◌, ℕ, Bool, true, false, Some, Ok, ok_or, sym, refl, ap, ◌∙◌, arith}
use Rattle.std.specs.Bool.{then_some}
use Rattle.contents.specs.declared.fault.WriterFault.{WriterFault}

pub fitting : (b : Bool) (x y : ℕ) → b ≡ true → y ≡ x → Some y ≡ then_some b x
fitting b x y h e = ap Some e ∙ ap (λ (t : Bool). then_some t x) (sym h)

pub fitted : (b : Bool) (x y : ℕ) (f : WriterFault) → ok_or (then_some b x) f ≡ Ok y → (b ≡ true) × (y ≡ x)
fitted true x y f h = (refl, cc)
fitted false x y f h = let z : ◌≡◌ {A = ℕ} 0 1 = cc in absurd (omega arith)
