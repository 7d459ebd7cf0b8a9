use Rattle.std.proofs.Common.{refl}
use Rattle.vocabulary.specs.Places.{plmn_when, lai_when}
use Rattle.identities.specs.Identities.{imsi_when, signature_when, tmsi_when}
use Rattle.lists.specs.Lists.{added}
use Rattle.card_image.specs.Layout.{image}
use Rattle.card_image.specs.Meaning.{contents_in}
use Rattle.card_image.proofs.examples.worked_images_hold.Goals as goal

pub returns : goal.returns
unfolding plmn_when lai_when imsi_when signature_when tmsi_when added image contents_in
returns c = record {
  examples = record { statuses = refl; full = refl; bare = refl; full_read = refl; damaged = refl };
}
