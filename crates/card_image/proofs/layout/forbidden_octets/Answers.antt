use Rattle.std.proofs.Common.{[], get_or, arith}
use Rattle.card_image.proofs.Opened.{four_places}
use Rattle.card_image.proofs.layout.forbidden_octets.Goals as goal

pub returns-clause-value : goal.returns-clause-value
returns-clause-value c =
    let places = c.loop-place.octets-items in
    let filled = c.loop-place.invariant.0 in
    four_places c.entries-list.result.now c.args.forbidden.now (get_or places 0 []) (get_or places 1 []) (get_or places 2 []) (get_or places 3 [])
    c.entries-list.ensures.value (filled 0 (omega arith)) (filled 1 (omega arith)) (filled 2 (omega arith)) (filled 3 (omega arith))
