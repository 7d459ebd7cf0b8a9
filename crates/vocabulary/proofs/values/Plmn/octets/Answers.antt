use Rattle.vocabulary.proofs.Back.{plmn_back}
use Rattle.vocabulary.proofs.values.Plmn.octets.Goals as goal

pub returns-clause-back : goal.returns-clause-back
returns-clause-back c = rw c.unwrap_or.ensures (plmn_back c.args.self)
