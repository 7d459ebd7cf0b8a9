use Rattle.std.proofs.Common.{◌≡◌, ◌-◌, ◌++◌, length, take}
use Rattle.frames.proofs.LawsPlmns.{chain}
use Rattle.frames.proofs.element_values.plmns_value.Given as goal

-- the places so far are filled by their entries
abbrev pub invariant-loop-place : goal.invariant-loop-place
invariant-loop-place l =
    (chain 5 0 l.value (λ ps. record { entries = ps }) ≡ chain (5 - l.place) l.place l.value (λ ps. record { entries = take l.place l.entry-items ++ ps }))
    × (length l.entry-items ≡ 5)
