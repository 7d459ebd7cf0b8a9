use Rattle.std.proofs.Common.{get_or, sym, ap, ◌∙◌}
use Rattle.vocabulary.specs.Places.{lai_of}
use Rattle.card_image.proofs.Parts.{fits_from_lai}
use Rattle.card_image.proofs.layout.circuit_octets.Goals as goal

pub returns-clause-fits : goal.returns-clause-fits
returns-clause-fits c =
    fits_from_lai c.args.circuit.now.area
    (sym (ap (λ r. lai_of (get_or r 0 0) (get_or r 1 0) (get_or r 2 0) (get_or r 3 0) (get_or r 4 0)) c.octets.ensures.value) ∙ c.octets.ensures.back)
