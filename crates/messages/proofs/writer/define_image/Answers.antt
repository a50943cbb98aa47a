use Rattle.std.proofs.Common.{◌≡◌, true, leb, [], length, drop, ap, ◌∙◌, drop_of_length-le, arith, rules}
use Rattle.std.proofs.lemmas.Bool.{and_from, le-leb}
use Rattle.contents.specs.declared.message.Message.TheVariants.{Define}
use Rattle.messages.specs.Writing.{fits, image_of}
use Rattle.messages.proofs.Fitting.{fitting}
use Rattle.messages.proofs.Legs.{legs_fit, legs_image, define_fits, define_bits}
use Rattle.messages.proofs.writer.define_image.Goals as goal

pub returns-clause-image : goal.returns-clause-image
returns-clause-image c =
    let n = c.args.count in
    let ls = c.args.legs.now in
    let i = c.loop-i.i in
    let four : length ls ≡ 4 = search rules in
    let none : drop i ls ≡ [] = drop_of_length-le ls (omega arith) in
    let count : leb n 15 ≡ true = le-leb n 15 (omega arith) in
    let legs : legs_fit n 0 ls ≡ true = c.loop-i.invariant.0 ∙ ap (legs_fit n i) none in
    let fit : fits (Define (record { count = n; legs = ls })) ≡ true = define_fits n ls four ∙ and_from _ _ count legs in
    let rest : legs_image n i (drop i ls) ≡ 0 = ap (legs_image n i) none in
    let bits : c.loop-i.image ≡ image_of (Define (record { count = n; legs = ls })) = omega (arith, c.loop-i.invariant.1, rest, define_bits n ls four) in
    fitting _ _ _ fit bits
