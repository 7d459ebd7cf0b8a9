use Rattle.std.proofs.Common.{◌≡◌, rules}
use Rattle.frames.specs.Decoded.{decoded}
use Rattle.frames.proofs.LawsRead.{read_obeys}
use Rattle.frames.proofs.reading.read.Goals as goal

pub returns-clause-layout : goal.returns-clause-layout
returns-clause-layout c =
    let value : c.by_kind.result ≡ decoded c.args.frame.now = search rules in
    read_obeys c.args.frame.now c.by_kind.result c.type_inv.frame value
