use Rattle.std.proofs.Common.{sym, ◌∙◌}
use Rattle.identities.proofs.Makes.{key_made}
use Rattle.identities.proofs.values.KeyNumber.written.Goals as goal

pub returns-in-Some-clause-back : goal.returns-in-Some-clause-back
returns-in-Some-clause-back c = sym (c.in-Some.is ∙ key_made c.in-Some.key)
