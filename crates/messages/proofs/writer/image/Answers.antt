use Rattle.std.specs.Bool.{then_some}
use Rattle.std.proofs.Common.{sym, ap, ◌∙◌}
use Rattle.messages.specs.declared.codes.Kind.TheVariants.{Place, Cancel, Evaluate}
use Rattle.contents.specs.declared.message.Message.{Message}
use Rattle.messages.specs.Writing.{fits, image_of}
use Rattle.messages.proofs.Saying.{capable}
use Rattle.messages.proofs.writer.image.Goals as goal

pub order_image-requires : goal.order_image-requires
order_image-requires c = capable Place 0

pub order_image-requires-in-Cancel : goal.order_image-requires-in-Cancel
order_image-requires-in-Cancel c = capable Cancel 0

pub order_image-requires-in-Evaluate : goal.order_image-requires-in-Evaluate
order_image-requires-in-Evaluate c = capable Evaluate 0

pub returns-in-Define-clause-image : goal.returns-in-Define-clause-image
returns-in-Define-clause-image c = c.define_image.ensures.image ∙ ap (λ (m : Message). then_some (fits m) (image_of m)) (sym c.in-Define.is)
