use Rattle.std.proofs.Common.{◌≡◌, ◌+◌, length, take}
use Rattle.frames.specs.Written.{joined}
use Rattle.frames.proofs.put.len_within.Given as goal

-- the parts so far and the room that is left are the room
abbrev pub invariant-loop-part : goal.invariant-loop-part
invariant-loop-part l = l.left + length (joined (take l.part-index l.parts)) ≡ l.room
