use Rattle.messages.proofs.Round.{accepted, as_said, written_back}
use Rattle.messages.proofs.reader.read.Goals as goal

pub returns : goal.returns
returns c =
    let bs = c.args.bytes.now in
    let r = c.parse.result in
    let e = c.parse.ensures in
    record { answer = e; accepted = accepted bs r e; said = as_said bs r e; back = written_back bs (λ i. (c.type_inv.bytes i).fits) r e }
