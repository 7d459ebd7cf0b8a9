-- Which cells are barred to which side.
use Rattle.std.specs.Prelude.{Bool, ◌||◌, List}
use Rattle.vocabulary.specs.declared.values.Plmn.{Plmn}
use Rattle.vocabulary.specs.declared.values.Lai.{Lai}
use Rattle.vocabulary.specs.Same.{same_plmn, same_lai}
use Rattle.lists.specs.Lists.{member}

-- the lists that bar cells, by which contracts see them
pub record Barring : Type 0 where
  pub gprs : List Plmn
  pub regional : List Lai
  pub roaming : List Lai

-- to the circuit side: the network is forbidden, or the area is on a list of areas
abbrev pub barred_circuit : List Plmn → List Lai → List Lai → Lai → Bool
barred_circuit forbidden regional roaming cell =
    member same_plmn cell.plmn forbidden || (member same_lai cell regional || member same_lai cell roaming)

-- to the packet side: also where the network is forbidden for GPRS
abbrev pub barred_packet : List Plmn → List Plmn → List Lai → List Lai → Lai → Bool
barred_packet forbidden gprs regional roaming cell =
    barred_circuit forbidden regional roaming cell || member same_plmn cell.plmn gprs
