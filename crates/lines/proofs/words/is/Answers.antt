use Rattle.std.proofs.Common.{rules}
use Rattle.std.proofs.lemmas.Slice.Eq.{slice_eq-Decides, bytes_eq-Decides}
use Rattle.lines.proofs.words.is.Goals as goal
use Rattle.std.proofs.lemmas.Bool.Decides.{Decides-eqb}

pub returns : goal.returns
returns c =
    let d = slice_eq-Decides Decides-eqb c.args.word.now c.as_bytes.result.now c.eq.result c.eq.ensures in
    let s = bytes_eq-Decides c.args.word.now c.args.name.now in
    search rules
