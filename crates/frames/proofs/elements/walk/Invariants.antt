use Rattle.std.proofs.Common.{◌≡◌, ◌+◌, ◌-◌, ◌≤◌, length, drop}
use Rattle.frames.specs.Elements.{walk, nothing}
use Rattle.frames.proofs.elements.walk.Given as goal

-- what is left gives the answer
abbrev pub invariant-loop-rest : goal.invariant-loop-rest
invariant-loop-rest l =
    (walk l.side l.found (length l.frame - length l.rest + 1) l.rest 0 ≡ walk l.side nothing (l.fixed + 1) (drop l.fixed l.frame) 0)
    × (length l.rest ≤ length l.frame)

abbrev pub decreases-loop-rest : goal.decreases-loop-rest
decreases-loop-rest l = length l.rest
