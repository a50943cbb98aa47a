-- The parts of a reading: what was tested, and what came of it.
use Rattle.std.proofs.Common.{◌≡◌, ℕ, Bool, true, false, cond, eqb, List, length, Some, None, Ok, Err, Option, sym, refl, ap, ◌∙◌, arith}
use Rattle.std.proofs.lemmas.Bool.{cond-true, eqb-true, eq-eqb}
use Rattle.refusals.specs.declared.reason.Reason.TheVariants.{Length}
use Rattle.contents.specs.declared.edition.Edition.{Edition}
use Rattle.contents.specs.Editions.{edition_code, edition_coded}
use Rattle.contents.specs.Faults.{reader_fault}
use Rattle.contents.specs.declared.message.Received.{Received}
use Rattle.messages.specs.declared.codes.Kind.{Kind}
use Rattle.messages.specs.Bits.{field}
use Rattle.messages.specs.Codes.{kind_code, kind_coded}
use Rattle.messages.specs.Layout.{layout}
use Rattle.messages.specs.Reading.{first_offence, unless, leg_count, said, received, read_kind, read_edition, read_of}
use Rattle.messages.proofs.Coding.{edition_back, edition_bits, kind_back, kind_bits}

-- what holds of bytes that are read as a message
pub record Parts (bs : List ℕ) (x : Received) : Type 0 where
  pub long : length bs ≡ 14
  pub edition : Edition
  pub named : edition_code edition ≡ field bs 0 4
  pub kind : Kind
  pub coded : kind_code kind ≡ field bs 4 4
  pub none : first_offence bs (layout kind (leg_count bs)) ≡ None
  pub is : received edition (said kind edition bs) ≡ x

unless_ok : (o : Option ℕ) (y x : Received) → unless o y ≡ Ok x → (o ≡ None) × (y ≡ x)
unless_ok None y x h = (refl, cc)
unless_ok (Some p) y x h = let z : ◌≡◌ {A = ℕ} 0 1 = cc in absurd (omega arith)

module _ (bs : List ℕ) (x : Received) where
  kind_parts : length bs ≡ 14 → (e : Edition) → edition_code e ≡ field bs 0 4 → (o : Option Kind) → kind_coded (field bs 4 4) ≡ o → read_kind o e bs ≡ Ok x → Parts bs x
  kind_parts l e n None q h = let z : ◌≡◌ {A = ℕ} 0 1 = cc in absurd (omega arith)
  kind_parts l e n (Some k) q h =
      let u = unless_ok (first_offence bs (layout k (leg_count bs))) (received e (said k e bs)) x h in
      record { long = l; edition = e; named = n; kind = k; coded = kind_bits (field bs 4 4) k q; none = u.0; is = u.1 }

  edition_parts : length bs ≡ 14 → (o : Option Edition) → edition_coded (field bs 0 4) ≡ o → read_edition o bs ≡ Ok x → Parts bs x
  edition_parts l None q h = let z : ◌≡◌ {A = ℕ} 0 1 = cc in absurd (omega arith)
  edition_parts l (Some e) q h = kind_parts l e (edition_bits (field bs 0 4) e q) (kind_coded (field bs 4 4)) refl h

  length_parts : (b : Bool) → eqb (length bs) 14 ≡ b → cond b (read_edition (edition_coded (field bs 0 4)) bs) (Err (reader_fault Length 0)) ≡ Ok x → Parts bs x
  length_parts true e h = edition_parts (eqb-true (length bs) 14 e) (edition_coded (field bs 0 4)) refl h
  length_parts false e h = let z : ◌≡◌ {A = ℕ} 0 1 = cc in absurd (omega arith)

  pub parts : read_of bs ≡ Ok x → Parts bs x
  parts h = length_parts (eqb (length bs) 14) refl h

-- bytes of which all this holds are read
pub reads : (bs : List ℕ) → length bs ≡ 14 → (e : Edition) → edition_code e ≡ field bs 0 4 → (k : Kind) → kind_code k ≡ field bs 4 4 → first_offence bs (layout k (leg_count bs)) ≡ None → read_of bs ≡ Ok (received e (said k e bs))
reads bs l e m k c n =
    cond-true _ (read_edition (edition_coded (field bs 0 4)) bs) (Err (reader_fault Length 0)) (eq-eqb (length bs) 14 l)
    ∙ ap (λ (o : Option Edition). read_edition o bs) (ap edition_coded (sym m) ∙ edition_back e)
    ∙ ap (λ (o : Option Kind). read_kind o e bs) (ap kind_coded (sym c) ∙ kind_back k)
    ∙ ap (λ (o : Option ℕ). unless o (received e (said k e bs))) n
