-- The meaning of a card store: a slot that is empty or holds a card.
use Rattle.std.specs.Prelude.{◌≡◌, List, Some, None, Ok, Err, Option, Result}
use Rattle.std.specs.Option.{ok_or, option_map}
use Rattle.vocabulary.specs.declared.values.Plmn.{Plmn}
use Rattle.vocabulary.specs.declared.values.Lai.{Lai}
use Rattle.identities.specs.declared.values.Imsi.{Imsi}
use Rattle.stores.specs.declared.faults.StoreFault.{StoreFault}
use Rattle.stores.specs.declared.faults.StoreFault.TheVariants.{NoCard, SlotFull}
use Rattle.card.specs.declared.values.Card.{Card}
use Rattle.card.specs.declared.values.PacketRecord.{PacketRecord}
use Rattle.card.specs.declared.values.Record.{Record}

abbrev pub Slot : Type 0
Slot = Option Card

-- a plain store, by which contracts see it
pub record Plain : Type 0 where
  pub card : Slot

-- a question is refused exactly if the slot is empty, and answers one part
abbrev pub asked : {X : Type 0} → (Card → X) → Slot → Result X StoreFault
asked part slot = ok_or (option_map part slot) NoCard

-- loading is refused exactly if the slot is full
abbrev pub loading : Slot → Result (Unit {0}) StoreFault
loading None = Ok tt
loading (Some c) = Err SlotFull

abbrev pub loaded : Card → Slot → Slot
loaded new None = Some new
loaded new (Some c) = Some c

-- ejecting and writing are refused exactly if the slot is empty
abbrev pub needing : Slot → Result (Unit {0}) StoreFault
needing = asked (λ _. tt)

abbrev pub written : (Card → Card) → Slot → Slot
written = option_map

-- the card is another, of which this holds beside the old one; where there is none nothing changes
abbrev pub Changed : (Card → Card → Type 0) → Slot → Slot → Type 0
Changed Becomes None after = after ≡ None
Changed Becomes (Some c) after = (d : Card) × Becomes c d × (after ≡ Some d)

-- a write replaces one part, and the others are as before
abbrev pub put_imsi : Imsi → Card → Card
put_imsi part c = record { imsi = part; packet = c.packet; circuit = c.circuit; forbidden = c.forbidden }

abbrev pub put_packet : PacketRecord → Card → Card
put_packet part c = record { imsi = c.imsi; packet = part; circuit = c.circuit; forbidden = c.forbidden }

abbrev pub put_circuit : Record Lai → Card → Card
put_circuit part c = record { imsi = c.imsi; packet = c.packet; circuit = part; forbidden = c.forbidden }

abbrev pub put_forbidden : List Plmn → Card → Card
put_forbidden part c = record { imsi = c.imsi; packet = c.packet; circuit = c.circuit; forbidden = part }

-- copying is refused exactly if there is no card to copy, or one in the way
abbrev pub copying : Slot → Slot → Result (Unit {0}) StoreFault
copying None to = Err NoCard
copying (Some c) to = loading to

abbrev pub copied : Slot → Slot → Slot
copied None to = to
copied (Some c) to = loaded c to
