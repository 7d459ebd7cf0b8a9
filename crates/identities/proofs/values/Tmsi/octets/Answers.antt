use Rattle.identities.proofs.Back.{tmsi_back}
use Rattle.identities.proofs.values.Tmsi.octets.Goals as goal

pub returns-clause-back : goal.returns-clause-back
returns-clause-back c = rw c.to_be_bytes.ensures (tmsi_back c.args.self)
