use Rattle.std.proofs.Common.{◌≡◌, true, [], ◌∷◌, ◌++◌, ap, ◌∙◌, subst}
use Rattle.card.specs.contracts.values.Card.{the_view}
use Rattle.card_image.specs.Layout.{image}
use Rattle.card_image.specs.Meaning.{contents_in, lawful_contents}
use Rattle.card_image.proofs.Meant.{card_lawful, one_card}
use Rattle.card_image.proofs.RoundTrip.{image_read}
use Rattle.card_image.proofs.layout.image_of.Goals as goal

pub returns : goal.returns
unfolding image
returns c =
    let card = c.args.card.now in
    let lawful = subst (λ held. lawful_contents held ≡ true) c.card.view_is
    (card_lawful (the_view c.card.inside) c.forbidden_octets.ensures.bound c.forbidden_octets.ensures.once c.packet_octets.ensures.fits c.circuit_octets.ensures.fits) in
    let value = c.joined.ensures.value
    ∙ (λ k. c.octets.ensures.value k ++ (c.packet_octets.ensures.value k ++ (c.circuit_octets.ensures.value k ++ (c.forbidden_octets.ensures.value k
    ++ c.written.ensures.value k ∷ c.written-2.ensures.value k ∷ []))))
    ∙ ap image c.card.view_is in
    record {
      value = value;
      back = ap contents_in value ∙ image_read card lawful;
      unique = λ other other_lawful e. one_card other card other_lawful lawful (e ∙ value);
    }
