-- Both round trips, and what bytes that are read say.
use Rattle.std.proofs.Common.{◌≡◌, ℕ, ◌+◌, ◌*◌, ◌^◌, ◌<◌, ◌⊎◌, true, eqb, List, ◌∷◌, ◌++◌, length, get_or, drop, is_ok, Ok, Err, Result, sym, refl, ap, ◌∙◌, subst, inl, inr, ⊎_elim, arith}
use Rattle.std.proofs.lemmas.Bool.{and_from, and_parts, eq-eqb, cond-true}
use Rattle.messages.specs.declared.codes.Kind.{Kind}
use Rattle.messages.specs.declared.codes.Kind.TheVariants as kind
use Rattle.contents.specs.declared.edition.Edition.{Edition}
use Rattle.contents.specs.declared.edition.Edition.TheVariants.{Unsigned, Signed}
use Rattle.contents.specs.Editions.{edition_code}
use Rattle.contents.specs.declared.fault.ReaderFault.{ReaderFault}
use Rattle.contents.specs.declared.message.Message.{Message}
use Rattle.contents.specs.declared.message.Received.{Received}
use Rattle.messages.specs.Bits.{field, bytes_of}
use Rattle.contents.specs.Sides.{leg_side_code, leg_side_coded}
use Rattle.messages.specs.Codes.{kind_code}
use Rattle.messages.specs.Laws.{Within, Lawful, Accepted, LimitWritten, Written, Said, ReadBack, WrittenBack}
use Rattle.messages.specs.Layout.{Field, head_layout, layout}
use Rattle.messages.specs.Limits.{limit_in}
use Rattle.messages.specs.Reading.{first_offence, leg_count, said, received, read_of}
use Rattle.messages.specs.Writing.{kind_of, count_of, FourLegged, values_of, limit_ok, all_within, fits, image, image_of, writable, write_answer, written}
use Rattle.messages.proofs.Bytes.{length_bytes_of, bytes_whole}
use Rattle.messages.proofs.Coding.{order_side_bits, leg_side_bits, mark_bits, twos_written}
use Rattle.messages.proofs.FieldLaws.{field_lt}
use Rattle.messages.proofs.Readings.{Parts, parts, reads}
use Rattle.messages.proofs.Saying.{tiles, capable, as_many, said_back, count_back, layout_said, kind_said, limit_said, values_said}
use Rattle.messages.proofs.Trips.{values, Slim, slim, values_back, image_back, within_none, none_within, within_all, all_to_within}

code_lt : (k : Kind) → kind_code k < 2 ^ 4
code_lt kind.Place = omega arith
code_lt kind.Cancel = omega arith
code_lt kind.Evaluate = omega arith
code_lt kind.Define = omega arith

-- a message that can be written is read back
pub back : (m : Message) → FourLegged m → fits m ≡ true → ReadBack m (bytes_of 14 (image_of m))
back m legs fit =
    let k = kind_of m in
    let fs : List Field = head_layout ++ layout k (count_of m) in
    let vs : List ℕ = 2 ∷ kind_code k ∷ values_of m in
    let bs = bytes_of 14 (image_of m) in
    let p = and_parts (limit_ok m) (all_within (layout k (count_of m)) (values_of m)) fit in
    let thin : Slim fs vs = (omega arith, (code_lt k, slim (layout k (count_of m)) (values_of m) (capable k (count_of m)) (as_many m) p.1)) in
    let n : 0 * 2 ^ 112 + image_of m ≡ image_of m = omega arith in
    let all : values bs fs ≡ vs = ap (λ (x : ℕ). values (bytes_of 14 x) fs) (sym n) ∙ values_back 0 0 fs vs (tiles k (count_of m)) thin in
    let two : field bs 0 4 ≡ 2 = ap (λ (xs : List ℕ). get_or xs 0 0) all in
    let coded : field bs 4 4 ≡ kind_code k = ap (λ (xs : List ℕ). get_or xs 1 0) all in
    let body : values bs (layout k (count_of m)) ≡ values_of m = ap (λ (xs : List ℕ). drop 2 xs) all in
    let within = all_to_within bs (layout k (count_of m)) (subst (λ (xs : List ℕ). all_within (layout k (count_of m)) xs ≡ true) (sym body) p.1) in
    let none = ap (first_offence bs) (count_back bs m body) ∙ within_none bs (layout k (count_of m)) within in
    reads bs (length_bytes_of 14 (image_of m)) Signed (sym two) k (sym coded) none ∙ ap (λ (x : Message). Ok (received Signed x)) (said_back bs m legs p.0 body)

-- a message that was read in edition 2 is written back
module _ (bs : List ℕ) (small : (i : ℕ) → get_or bs i 0 < 256) where
  again_said : (k : Kind) → length bs ≡ 14 → field bs 0 4 ≡ 2 → kind_code k ≡ field bs 4 4 → Within bs (layout k (leg_count bs)) → (fits (said k Signed bs) ≡ true) × (bytes_of 14 (image_of (said k Signed bs)) ≡ bs)
  again_said k long two coded w =
      let m = said k Signed bs in
      let fs : List Field = head_layout ++ layout k (leg_count bs) in
      let same = layout_said k Signed bs in
      let vals = values_said k bs w in
      let inside : all_within (layout (kind_of m) (count_of m)) (values_of m) ≡ true =
      ap (λ (l : List Field). all_within l (values_of m)) same ∙ ap (all_within (layout k (leg_count bs))) vals ∙ within_all bs (layout k (leg_count bs)) w in
      let head : image_of m ≡ image fs (2 ∷ kind_code k ∷ values_of m) =
      ap (λ (l : List Field). image (head_layout ++ l) (2 ∷ kind_code (kind_of m) ∷ values_of m)) same ∙ ap (λ (j : Kind). image fs (2 ∷ kind_code j ∷ values_of m)) (kind_said k Signed bs) in
      let whole : image fs (2 ∷ kind_code k ∷ values_of m) ≡ image fs (values bs fs) = λ i. image fs (sym two i ∷ coded i ∷ vals i) in
      (and_from (limit_ok m) _ (limit_said k bs) inside, ap (bytes_of 14) (head ∙ whole ∙ image_back bs 0 fs (tiles k (leg_count bs))) ∙ bytes_whole bs long small)

  pub again : (x : Received) → Parts bs x → x.edition ≡ Signed → (room : List ℕ) → length room ≡ 14 → (write_answer x.message room ≡ Ok tt) × (written x.message room ≡ bs)
  again x p e room long =
      let k = p.kind in
      let signed : p.edition ≡ Signed = ap (λ (y : Received). y.edition) p.is ∙ e in
      let two : field bs 0 4 ≡ 2 = sym p.named ∙ ap edition_code signed in
      let message : x.message ≡ said k Signed bs = sym (ap (λ (y : Received). y.message) p.is) ∙ ap (λ (d : Edition). said k d bs) signed in
      let a = again_said k p.long two p.coded (none_within bs (layout k (leg_count bs)) p.none) in
      let can : writable x.message room ≡ true = and_from (eqb (length room) 14) (fits x.message) (eq-eqb (length room) 14 long) (ap fits message ∙ a.0) in
      (cond-true _ _ _ can, cond-true _ _ _ can ∙ ap (λ (m : Message). bytes_of 14 (image_of m)) message ∙ a.1)

-- the fields of what bits say are those that the bits write
limit_is_written : (e : Edition) (raw : ℕ) → raw < 2 ^ 32 → LimitWritten e raw (limit_in e raw)
limit_is_written Unsigned raw h = refl
limit_is_written Signed raw h = twos_written raw h

edition_is_known : (n : ℕ) (e : Edition) → edition_code e ≡ n → (n ≡ edition_code Unsigned) ⊎ (n ≡ edition_code Signed)
edition_is_known n Unsigned h = inl (sym h)
edition_is_known n Signed h = inr (sym h)

written_said : (bs : List ℕ) (e : Edition) (k : Kind) → kind_code k ≡ field bs 4 4 → Written bs e (said k e bs)
written_said bs e kind.Place c =
    (sym c, refl, order_side_bits (field bs 16 1) (field_lt bs 16 1), mark_bits (field bs 17 1) (field_lt bs 17 1), refl, limit_is_written e (field bs 20 32) (field_lt bs 20 32), refl)
written_said bs e kind.Cancel c = (sym c, refl)
written_said bs e kind.Evaluate c = (sym c, refl)
written_said bs e kind.Define c =
    let side : (p : ℕ) → leg_side_code (leg_side_coded (field bs p 1)) ≡ field bs p 1 = λ p. leg_side_bits (field bs p 1) (field_lt bs p 1) in
    (sym c, refl, refl, (refl, side 22, refl), (refl, side 37, refl), (refl, side 52, refl), (refl, side 67, refl))

-- what holds of a reading, from the equation that it answers
module _ (bs : List ℕ) where
  lawful_from : (x : Received) → Parts bs x → Lawful bs
  lawful_from x p =
      record {
        long = p.long;
        edition = edition_is_known (field bs 0 4) p.edition p.named;
        kind = p.kind;
        coded = p.coded;
        fields = none_within bs (layout p.kind (leg_count bs)) p.none;
      }

  lawful_read : Lawful bs → is_ok (read_of bs) ≡ true
  lawful_read l =
      let none = within_none bs (layout l.kind (leg_count bs)) l.fields in
      ⊎_elim (λ a. ap is_ok (reads bs l.long Unsigned (sym a) l.kind l.coded none)) (λ b. ap is_ok (reads bs l.long Signed (sym b) l.kind l.coded none)) l.edition

  accepted_if : (r : Result Received ReaderFault) → r ≡ read_of bs → is_ok r ≡ true → Lawful bs
  accepted_if (Ok x) e h = lawful_from x (parts bs x (sym e))
  accepted_if (Err f) e h = let z : ◌≡◌ {A = ℕ} 0 1 = cc in absurd (omega arith)

  pub accepted : (r : Result Received ReaderFault) → r ≡ read_of bs → Accepted bs r
  accepted r e = (accepted_if r e, λ l. ap is_ok e ∙ lawful_read l)

  pub as_said : (r : Result Received ReaderFault) → r ≡ read_of bs → Said bs r
  as_said (Ok x) e =
      let p = parts bs x (sym e) in
      subst (λ (y : Received). (edition_code y.edition ≡ field bs 0 4) × Written bs y.edition y.message) p.is (p.named, written_said bs p.edition p.kind p.coded)
  as_said (Err f) e = tt

  pub written_back : ((i : ℕ) → get_or bs i 0 < 256) → (r : Result Received ReaderFault) → r ≡ read_of bs → WrittenBack bs r
  written_back small (Ok x) e = again bs small x (parts bs x (sym e))
  written_back small (Err f) e = tt
