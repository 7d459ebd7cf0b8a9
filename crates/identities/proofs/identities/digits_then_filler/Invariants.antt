use Rattle.std.proofs.Common.{◌≡◌, drop}
use Rattle.identities.specs.Marks.{digits_then_filler}
use Rattle.identities.proofs.identities.digits_then_filler.Given as goal

-- what is left gives the answer
abbrev pub invariant-loop-i : goal.invariant-loop-i
invariant-loop-i l = digits_then_filler l.len l.i (drop l.i l.places) ≡ digits_then_filler l.len 0 l.places
