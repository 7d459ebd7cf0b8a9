use Rattle.std.proofs.Common.{◌≡◌, ℕ, ◌<◌, [], length, get_or}
use Rattle.card_image.specs.Layout.{place_octets}
use Rattle.card_image.proofs.layout.forbidden_octets.Given as goal

-- the places so far hold their octets
abbrev pub invariant-loop-place : goal.invariant-loop-place
invariant-loop-place l = ((n : ℕ) → n < l.place → get_or l.octets-items n [] ≡ place_octets l.list n) × (length l.octets-items ≡ 4)
