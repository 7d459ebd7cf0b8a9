use Rattle.std.proofs.Common.{◌≡◌, ◌∙◌, sym, get_or, Ok, rules}
use Rattle.frames.specs.Decoded.{update_rejected}
use Rattle.frames.specs.declared.downlink.Downlink.TheVariants.{UpdateReject}
use Rattle.frames.specs.declared.tags.Side.TheVariants.{Packet}
use Rattle.frames.proofs.Parts.{after_parts}
use Rattle.frames.proofs.reading.update_reject.Goals as goal

pub returns : goal.returns
returns c =
    let xs = c.in_ok-cause.field-0-0 in
    let value : Ok (UpdateReject c.into.result c.in_ok-elements.field-0) ≡ update_rejected (get_or xs 2 0) c.in_ok-cause.found = search rules in
    record { value = value ∙ sym (after_parts Packet 4 _ xs c.in_ok-cause.found (λ ys. update_rejected (get_or ys 2 0)) c.in_ok-cause.ensures.value) }
