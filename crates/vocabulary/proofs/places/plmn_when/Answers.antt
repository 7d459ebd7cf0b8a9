use Rattle.std.proofs.Common.{sym}
use Rattle.vocabulary.specs.Told.{plmn_made}
use Rattle.vocabulary.proofs.Makes.{plmn_refused}
use Rattle.vocabulary.proofs.places.plmn_when.Goals as goal

pub returns-then-lawful_digits : goal.returns-then-lawful_digits
returns-then-lawful_digits c = record { value = plmn_made _ }

pub returns-else-lawful_digits : goal.returns-else-lawful_digits
returns-else-lawful_digits c = record { value = plmn_refused _ _ _ _ _ _ (sym c.if-lawful_digits.ensures) }
