use Rattle.std.proofs.Common.{◌≡◌, drop}
use Rattle.card.specs.Given.{forbidden_from}
use Rattle.card.proofs.Networks.{Fits, more_from}
use Rattle.card.proofs.checking.forbidden_from.Given as goal

-- what is left gives the answer
abbrev pub invariant-loop-octets : goal.invariant-loop-octets
invariant-loop-octets l = (more_from l.list (drop l.octets-index l.given) ≡ forbidden_from l.given) × Fits l.list
