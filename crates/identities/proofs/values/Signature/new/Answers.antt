use Rattle.std.proofs.Common.{sym}
use Rattle.identities.proofs.Makes.{signature_made, signature_refused}
use Rattle.identities.proofs.values.Signature.new.Goals as goal

pub returns-then-lawful_signature : goal.returns-then-lawful_signature
returns-then-lawful_signature c = record { value = signature_made _ }

pub returns-else-lawful_signature : goal.returns-else-lawful_signature
returns-else-lawful_signature c = record { value = signature_refused _ (sym c.if-lawful_signature.ensures) }
