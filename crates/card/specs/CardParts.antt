-- The parts of a card, by which contracts see it: those of the struct, with the list as its entries.
use Rattle.std.specs.Prelude.{List}
use Rattle.vocabulary.specs.declared.values.Plmn.{Plmn}
use Rattle.vocabulary.specs.declared.values.Lai.{Lai}
use Rattle.identities.specs.declared.values.Imsi.{Imsi}
use Rattle.card.specs.declared.values.PacketRecord.{PacketRecord}
use Rattle.card.specs.declared.values.Record.{Record}

pub record CardParts : Type 0 where
  pub imsi : Imsi
  pub packet : PacketRecord
  pub circuit : Record Lai
  pub forbidden : List Plmn
