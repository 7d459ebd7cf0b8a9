use Rattle.std.proofs.Common.{sym}
use Rattle.vocabulary.specs.Told.{lai_made}
use Rattle.vocabulary.proofs.Makes.{lai_refused}
use Rattle.vocabulary.proofs.values.Lai.new.Goals as goal

pub returns-then-lawful_lac : goal.returns-then-lawful_lac
returns-then-lawful_lac c = record { value = lai_made _ }

pub returns-else-lawful_lac : goal.returns-else-lawful_lac
returns-else-lawful_lac c = record { value = lai_refused _ _ (sym c.if-lawful_lac.ensures) }
