use Rattle.std.proofs.Common.{[], ◌∷◌, get_or, sym, ap, ◌∙◌}
use Rattle.vocabulary.specs.Places.{rai_of}
use Rattle.card_image.proofs.Opened.{packet_opened}
use Rattle.card_image.proofs.Parts.{fits_from_rai}
use Rattle.card_image.proofs.layout.packet_octets.Goals as goal

pub returns : goal.returns
returns c =
    let identity = c.identity_octets.ensures.value in
    let signature = c.signature_octets.ensures.value in
    let area = c.octets.ensures.value in
    record {
      value = (λ k. get_or (identity k) 0 0 ∷ get_or (identity k) 1 0 ∷ get_or (identity k) 2 0 ∷ get_or (identity k) 3 0
          ∷ get_or (signature k) 0 0 ∷ get_or (signature k) 1 0 ∷ get_or (signature k) 2 0
          ∷ get_or (area k) 0 0 ∷ get_or (area k) 1 0 ∷ get_or (area k) 2 0 ∷ get_or (area k) 3 0 ∷ get_or (area k) 4 0 ∷ get_or (area k) 5 0
          ∷ c.status_written-n.ensures k ∷ [])
          ∙ sym (packet_opened c.args.packet.now);
      fits = fits_from_rai c.args.packet.now.base.area (sym (ap (λ r. rai_of (get_or r 0 0) (get_or r 1 0) (get_or r 2 0) (get_or r 3 0) (get_or r 4 0) (get_or r 5 0)) area) ∙ c.octets.ensures.back);
    }
