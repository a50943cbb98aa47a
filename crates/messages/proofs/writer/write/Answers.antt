use Rattle.std.proofs.Common.{◌≡◌, ℕ, true, eqb, List, length, take, drop, Option, ok_or, sym, ap, ◌∙◌, arith}
use Rattle.std.proofs.lemmas.Bool.{and_from, cond-true, eq-eqb}
use Rattle.messages.specs.Bits.{bytes_of}
use Rattle.messages.specs.Reading.{read_of}
use Rattle.messages.specs.Writing.{fits, image_of, writable}
use Rattle.messages.proofs.Bytes.{bytes_high}
use Rattle.messages.proofs.Fitting.{fitted}
use Rattle.messages.proofs.Round.{back}
use Rattle.messages.proofs.writer.write.Goals as goal

pub returns : goal.returns
returns c =
    let m = c.args.message.now in
    let fit = fitted (fits m) (image_of m) c.in_ok-image.image _ (ap (λ (o : Option ℕ). ok_or o _) (sym c.image.ensures.image) ∙ sym c.ok_or.ensures.value ∙ c.in_ok-image.was) in
    let can : writable m c.args.room.now ≡ true = and_from (eqb (length c.args.room.now) 14) (fits m) (eq-eqb (length c.args.room.now) 14 (omega arith)) fit.0 in
    let bytes = c.copy_from_slice.ensures.after ∙ ap (λ (bs : List ℕ). take 14 (drop 2 bs)) c.to_be_bytes.ensures ∙ bytes_high 14 c.in_ok-image.image ∙ ap (bytes_of 14) fit.1 in
    record {
      answer = sym (cond-true _ _ _ can);
      room = bytes ∙ sym (cond-true _ _ _ can);
      back = ap read_of bytes ∙ back m c.image.ensures.legs fit.0;
    }
