use Rattle.identities.proofs.Back.{signature_high, signature_back}
use Rattle.identities.proofs.values.Signature.octets.Goals as goal

pub returns-clause-back : goal.returns-clause-back
returns-clause-back c = rw (c.to_be_bytes.ensures, signature_high c.args.self) (signature_back c.args.self)
