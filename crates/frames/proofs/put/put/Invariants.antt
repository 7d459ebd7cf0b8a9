use Rattle.std.proofs.Common.{◌≡◌, ◌++◌, length, take, drop}
use Rattle.frames.specs.Written.{joined}
use Rattle.frames.proofs.put.put.Given as goal

-- the parts so far stand at the front
abbrev pub invariant-loop-part : goal.invariant-loop-part
invariant-loop-part l =
    (l.start ≡ length (joined (take l.part-index l.parts)))
    × (l.area ≡ joined (take l.part-index l.parts) ++ drop l.start l.fn.area)
