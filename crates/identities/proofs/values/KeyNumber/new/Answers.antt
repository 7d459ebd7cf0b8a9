use Rattle.std.proofs.Common.{sym}
use Rattle.identities.proofs.Makes.{key_made, key_refused}
use Rattle.identities.proofs.values.KeyNumber.new.Goals as goal

pub returns-then-lawful_key : goal.returns-then-lawful_key
returns-then-lawful_key c = record { value = key_made _ }

pub returns-else-lawful_key : goal.returns-else-lawful_key
returns-else-lawful_key c = record { value = key_refused _ (sym c.if-lawful_key.ensures) }
