use Rattle.std.proofs.Common.{◌≡◌, ◌∙◌, sym, get_or, Ok, rules}
use Rattle.frames.specs.Decoded.{location_rejected}
use Rattle.frames.specs.declared.downlink.Downlink.TheVariants.{LocationReject}
use Rattle.frames.specs.declared.tags.Side.TheVariants.{Circuit}
use Rattle.frames.proofs.Parts.{after_parts}
use Rattle.frames.proofs.reading.location_reject.Goals as goal

pub returns : goal.returns
returns c =
    let xs = c.in_ok-cause.field-0-0 in
    let value : Ok (LocationReject c.into.result c.in_ok-elements.field-0) ≡ location_rejected (get_or xs 2 0) c.in_ok-cause.found = search rules in
    record { value = value ∙ sym (after_parts Circuit 3 _ xs c.in_ok-cause.found (λ ys. location_rejected (get_or ys 2 0)) c.in_ok-cause.ensures.value) }
