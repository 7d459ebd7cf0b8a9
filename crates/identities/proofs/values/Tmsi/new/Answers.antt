use Rattle.std.proofs.Common.{sym}
use Rattle.identities.proofs.Makes.{tmsi_made, tmsi_refused}
use Rattle.identities.proofs.values.Tmsi.new.Goals as goal

pub returns-then-lawful_tmsi : goal.returns-then-lawful_tmsi
returns-then-lawful_tmsi c = record { value = tmsi_made _ }

pub returns-else-lawful_tmsi : goal.returns-else-lawful_tmsi
returns-else-lawful_tmsi c = record { value = tmsi_refused _ (sym c.if-lawful_tmsi.ensures) }
