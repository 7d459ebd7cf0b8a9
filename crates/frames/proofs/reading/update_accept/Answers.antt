use Rattle.std.proofs.Common.{◌≡◌, ◌∙◌, sym, get_or, Ok, rules}
use Rattle.vocabulary.specs.Places.{rai_in}
use Rattle.frames.specs.Decoded.{update_accepted}
use Rattle.frames.specs.declared.downlink.Downlink.TheVariants.{UpdateAccept}
use Rattle.frames.specs.declared.tags.Side.TheVariants.{Packet}
use Rattle.frames.proofs.LawsAreas.{from}
use Rattle.frames.proofs.Parts.{after_parts}
use Rattle.frames.proofs.reading.update_accept.Goals as goal

pub returns-in_err-accept : goal.returns-in_err-accept
returns-in_err-accept c =
    let xs = c.in_ok-result.field-0-0 in
    let value : c.from_residual-in_err-accept.result ≡ update_accepted (get_or xs 2 0) (get_or xs 3 0) (rai_in (from 6 4 xs)) c.in_ok-result.found = search rules in
    record { value = value ∙ sym (after_parts Packet 10 _ xs c.in_ok-result.found (λ ys. update_accepted (get_or ys 2 0) (get_or ys 3 0) (rai_in (from 6 4 ys))) c.in_ok-result.ensures.value) }

pub returns : goal.returns
returns c =
    let xs = c.in_ok-result.field-0-0 in
    let value : Ok (UpdateAccept c.in_ok-accept.accept) ≡ update_accepted (get_or xs 2 0) (get_or xs 3 0) (rai_in (from 6 4 xs)) c.in_ok-result.found = search rules in
    record { value = value ∙ sym (after_parts Packet 10 _ xs c.in_ok-result.found (λ ys. update_accepted (get_or ys 2 0) (get_or ys 3 0) (rai_in (from 6 4 ys))) c.in_ok-result.ensures.value) }
