use Rattle.identities.proofs.Back.{imsi_back}
use Rattle.identities.proofs.values.Imsi.octets.Goals as goal

pub returns-clause-back : goal.returns-clause-back
returns-clause-back c = rw c.coded.ensures (imsi_back c.args.self)
