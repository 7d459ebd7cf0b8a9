use Rattle.std.proofs.Common.{◌≡◌, ◌+◌, ◌-◌, min, get_or, take, drop, ap, ◌∙◌, arith}
use Rattle.card_image.proofs.Joined.{take_of_take}
use Rattle.identities.specs.Identities.{imsi_of}
use Rattle.card_image.proofs.reading.imsi_at_front.Goals as goal

pub returns : goal.returns
returns c =
    let xs = c.args.image.now in
    let count : c.min-end.result + 1 - 1 ≡ min (get_or xs 0 0) 8 = omega (arith, c.min-end.ensures, c.from.ensures) in
    c.from_octets.ensures.value
    ∙ ap (λ n. imsi_of (take n (drop 1 xs))) count
    ∙ ap imsi_of (take_of_take (get_or xs 0 0) 8 (drop 1 xs))
