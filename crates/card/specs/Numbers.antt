-- The numbers of a card: statuses, and the refusal as the host is told.
use Rattle.std.specs.Prelude.{ℕ}
use Rattle.vocabulary.specs.declared.refusals.Refusal.{Refusal}
use Rattle.vocabulary.specs.declared.refusals.Layer.TheVariants.{Engine}
use Rattle.card.specs.declared.fields.Unlawful.{Unlawful}
use Rattle.card.specs.declared.values.Status.{Status}
use Rattle.card.specs.declared.values.Status.TheVariants.{Updated, NotUpdated, NotAllowed}

-- the number that a status is given by
abbrev pub status_number : Status → ℕ
status_number Updated = 1
status_number NotUpdated = 2
status_number NotAllowed = 3

-- whatever is not lawful in a card that is given has one number
abbrev pub unlawful_refusal : Unlawful → Refusal
unlawful_refusal fault = record { number = 5; layer = Engine; octet = 0 }
