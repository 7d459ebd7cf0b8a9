-- What a step does to a slot.
use Rattle.std.specs.Prelude.{◌≡◌, List, Some, None, Result}
use Rattle.vocabulary.specs.declared.values.Plmn.{Plmn}
use Rattle.vocabulary.specs.Same.{same_plmn}
use Rattle.lists.specs.Lists.{added, removed}
use Rattle.stores.specs.Slots.{Slot, loading, loaded, needing, written, put_imsi, put_packet, put_circuit, put_forbidden}
use Rattle.stores.specs.declared.faults.StoreFault.{StoreFault}
use Rattle.stores.specs.declared.steps.Step.{Step}
use Rattle.stores.specs.declared.steps.Step.TheVariants.{Load, Eject, WriteImsi, WritePacket, WriteCircuit, WriteForbidden, Forbid, Permit}

-- a load wants an empty slot, every other step a card
abbrev pub step_answer : Step → Slot → Result (Unit {0}) StoreFault
step_answer (Load card) slot = loading slot
step_answer Eject slot = needing slot
step_answer (WriteImsi part) slot = needing slot
step_answer (WritePacket part) slot = needing slot
step_answer (WriteCircuit part) slot = needing slot
step_answer (WriteForbidden part) slot = needing slot
step_answer (Forbid plmn) slot = needing slot
step_answer (Permit plmn) slot = needing slot

-- to forbid a network is to add it to the list of the card, to permit it is to remove it there
abbrev pub step_after : Step → Slot → Slot
step_after (Load card) slot = loaded card slot
step_after Eject slot = None
step_after (WriteImsi part) slot = written (put_imsi part) slot
step_after (WritePacket part) slot = written (put_packet part) slot
step_after (WriteCircuit part) slot = written (put_circuit part) slot
step_after (WriteForbidden part) slot = written (put_forbidden part) slot
step_after (Forbid plmn) slot = written (λ c. put_forbidden (added same_plmn 4 c.forbidden plmn) c) slot
step_after (Permit plmn) slot = written (λ c. put_forbidden (removed same_plmn c.forbidden plmn) c) slot

-- the list of the card is another, of which this holds beside the old one; where there is no card nothing changes
abbrev pub Relisted : (List Plmn → List Plmn → Type 0) → Slot → Slot → Type 0
Relisted Becomes None after = after ≡ None
Relisted Becomes (Some c) after = (list : List Plmn) × Becomes c.forbidden list × (after ≡ Some (put_forbidden list c))
