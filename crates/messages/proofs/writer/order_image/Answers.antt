use Rattle.std.proofs.Common.{◌∷◌, ◌++◌, arith, rules}
use Rattle.contents.specs.declared.edition.Edition.TheVariants.{Signed}
use Rattle.contents.specs.Editions.{edition_code}
use Rattle.messages.specs.Codes.{kind_code}
use Rattle.messages.specs.Layout.{head_layout, order_layout, unused_bits}
use Rattle.messages.specs.Writing.{order_values, all_within, image}
use Rattle.messages.proofs.Fitting.{fitting}
use Rattle.messages.proofs.writer.order_image.Goals as goal

pub returns : goal.returns
unfolding unused_bits
returns c =
    let fs = order_layout c.args.greatest.now in
    let vs = order_values c.args.fields.now in
    fitting (all_within fs vs) (image (head_layout ++ fs) (edition_code Signed ∷ kind_code c.args.kind ∷ vs)) _ (search rules) (omega arith)
