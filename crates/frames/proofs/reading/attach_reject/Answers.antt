use Rattle.std.proofs.Common.{◌≡◌, ◌∙◌, sym, get_or, Ok, rules}
use Rattle.frames.specs.Decoded.{attach_rejected}
use Rattle.frames.specs.declared.downlink.Downlink.TheVariants.{AttachReject}
use Rattle.frames.specs.declared.tags.Side.TheVariants.{Packet}
use Rattle.frames.proofs.Parts.{after_parts}
use Rattle.frames.proofs.reading.attach_reject.Goals as goal

pub returns : goal.returns
returns c =
    let xs = c.in_ok-cause.field-0-0 in
    let value : Ok (AttachReject c.into.result c.in_ok-elements.field-0) ≡ attach_rejected (get_or xs 2 0) c.in_ok-cause.found = search rules in
    record { value = value ∙ sym (after_parts Packet 3 _ xs c.in_ok-cause.found (λ ys. attach_rejected (get_or ys 2 0)) c.in_ok-cause.ensures.value) }
