use Rattle.std.proofs.Common.{sym}
use Rattle.identities.proofs.Makes.{imsi_made, imsi_refused}
use Rattle.identities.proofs.identities.imsi_when.Goals as goal

pub returns-then-lawful_imsi : goal.returns-then-lawful_imsi
returns-then-lawful_imsi c = record { value = imsi_made _ }

pub returns-else-lawful_imsi : goal.returns-else-lawful_imsi
returns-else-lawful_imsi c = record { value = imsi_refused _ _ (sym c.if-lawful_imsi.ensures) }
