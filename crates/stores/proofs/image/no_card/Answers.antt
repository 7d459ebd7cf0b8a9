use Rattle.std.proofs.Common.{refl}
use Rattle.identities.specs.Identities.{imsi_when}
use Rattle.card_image.specs.Meaning.{contents_in}
use Rattle.stores.proofs.image.no_card.Goals as goal

pub returns-clause-empty : goal.returns-clause-empty
unfolding contents_in imsi_when
returns-clause-empty c = refl
