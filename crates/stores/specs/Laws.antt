-- What whoever keeps a card may rely on, over any slot.
use Rattle.std.specs.Prelude.{◌≡◌, List, Some, None, Ok, Err}
use Rattle.vocabulary.specs.declared.values.Plmn.{Plmn}
use Rattle.vocabulary.specs.declared.values.Lai.{Lai}
use Rattle.identities.specs.declared.values.Imsi.{Imsi}
use Rattle.card.specs.declared.values.Card.{Card}
use Rattle.card.specs.declared.values.PacketRecord.{PacketRecord}
use Rattle.card.specs.declared.values.Record.{Record}
use Rattle.stores.specs.Slots.{Slot, loading, loaded, needing, written, put_imsi, put_packet, put_circuit, put_forbidden}
use Rattle.stores.specs.declared.faults.StoreFault.{StoreFault}
use Rattle.stores.specs.declared.faults.StoreFault.TheVariants.{NoCard, SlotFull}

-- a part of two cards is the same
abbrev pub SameImsi : Card → Card → Type 0
SameImsi c d = c.imsi ≡ d.imsi

abbrev pub SamePacket : Card → Card → Type 0
SamePacket c d = c.packet ≡ d.packet

abbrev pub SameCircuit : Card → Card → Type 0
SameCircuit c d = c.circuit ≡ d.circuit

abbrev pub SameForbidden : Card → Card → Type 0
SameForbidden c d = c.forbidden ≡ d.forbidden

-- a card is there afterwards, of which this holds
abbrev pub Now : Slot → (Card → Type 0) → Type 0
Now None P = ⊥
Now (Some c) P = P c

pub record SlotLaws : Type 0 where
  -- a load is refused exactly if there is a card, everything else exactly if there is none
  pub full : (c : Card) → loading (Some c) ≡ Err SlotFull
  pub free : loading None ≡ Ok tt
  pub none : needing None ≡ Err NoCard
  pub there : (c : Card) → needing (Some c) ≡ Ok tt
  -- a refusal changes nothing
  pub refused_load : (new : Card) (slot : Slot) (fault : StoreFault) → loading slot ≡ Err fault → loaded new slot ≡ slot
  pub refused_eject : (slot : Slot) (fault : StoreFault) → needing slot ≡ Err fault → slot ≡ None
  pub refused_write : (change : Card → Card) (slot : Slot) (fault : StoreFault) → needing slot ≡ Err fault → written change slot ≡ slot
  -- after a load the slot holds that card
  pub load : (new : Card) (slot : Slot) → loading slot ≡ Ok tt → Now (loaded new slot) (λ c. c ≡ new)
  -- after a write the part is the one that was written, and the others are as before
  pub write_imsi : (new : Imsi) (old : Card)
      → Now (written (put_imsi new) (Some old)) (λ c. (c.imsi ≡ new) × SamePacket c old × SameCircuit c old × SameForbidden c old)
  pub write_packet : (new : PacketRecord) (old : Card)
      → Now (written (put_packet new) (Some old)) (λ c. (c.packet ≡ new) × SameImsi c old × SameCircuit c old × SameForbidden c old)
  pub write_circuit : (new : Record Lai) (old : Card)
      → Now (written (put_circuit new) (Some old)) (λ c. (c.circuit ≡ new) × SameImsi c old × SamePacket c old × SameForbidden c old)
  pub write_forbidden : (new : List Plmn) (old : Card)
      → Now (written (put_forbidden new) (Some old)) (λ c. (c.forbidden ≡ new) × SameImsi c old × SamePacket c old × SameCircuit c old)
