use Rattle.std.proofs.Common.{sym, ap, ◌∙◌, arith}
use Rattle.vocabulary.specs.Places.{lai_in}
use Rattle.vocabulary.proofs.Back.{lai_back, no_lai_back}
use Rattle.vocabulary.proofs.values.Lai.octets.Goals as goal

pub returns-in-Some-clause-back : goal.returns-in-Some-clause-back
returns-in-Some-clause-back c =
    ap lai_in c.area_octets.ensures ∙ lai_back c.in-Some.area (omega arith) ∙ sym c.in-Some.is

pub returns-in-None-clause-back : goal.returns-in-None-clause-back
returns-in-None-clause-back c = no_lai_back ∙ sym c.in-None.is
