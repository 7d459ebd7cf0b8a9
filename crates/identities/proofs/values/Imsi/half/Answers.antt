use Rattle.identities.proofs.Halves.{half_small}
use Rattle.identities.proofs.values.Imsi.half.Goals as goal

pub returns-clause-small : goal.returns-clause-small
returns-clause-small c = half_small c.args.self c.args.at
