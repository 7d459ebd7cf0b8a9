use Rattle.std.proofs.Common.{◌≡◌, ◌∙◌, sym, get_or, Ok, rules}
use Rattle.vocabulary.specs.Places.{rai_in}
use Rattle.frames.specs.Decoded.{attach_accepted}
use Rattle.frames.specs.declared.downlink.Downlink.TheVariants.{AttachAccept}
use Rattle.frames.specs.declared.tags.Side.TheVariants.{Packet}
use Rattle.frames.proofs.LawsAreas.{from}
use Rattle.frames.proofs.Parts.{after_parts}
use Rattle.frames.proofs.reading.attach_accept.Goals as goal

pub returns-in_err-accept : goal.returns-in_err-accept
returns-in_err-accept c =
    let xs = c.in_ok-result.field-0-0 in
    let value : c.from_residual-in_err-accept.result ≡ attach_accepted (get_or xs 2 0) (get_or xs 3 0) (rai_in (from 6 5 xs)) c.in_ok-result.found = search rules in
    record { value = value ∙ sym (after_parts Packet 11 _ xs c.in_ok-result.found (λ ys. attach_accepted (get_or ys 2 0) (get_or ys 3 0) (rai_in (from 6 5 ys))) c.in_ok-result.ensures.value) }

pub returns : goal.returns
returns c =
    let xs = c.in_ok-result.field-0-0 in
    let value : Ok (AttachAccept c.in_ok-accept.accept) ≡ attach_accepted (get_or xs 2 0) (get_or xs 3 0) (rai_in (from 6 5 xs)) c.in_ok-result.found = search rules in
    record { value = value ∙ sym (after_parts Packet 11 _ xs c.in_ok-result.found (λ ys. attach_accepted (get_or ys 2 0) (get_or ys 3 0) (rai_in (from 6 5 ys))) c.in_ok-result.ensures.value) }
