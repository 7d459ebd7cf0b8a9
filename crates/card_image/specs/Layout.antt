-- The image of a card: 48 octets.
use Rattle.std.specs.Prelude.{ℕ, zero, suc, ◌-◌, List, [], ◌∷◌, ◌++◌, Some, None, Option}
use Rattle.vocabulary.specs.Places.{plmn_octets, lai_octets, rai_octets}
use Rattle.vocabulary.specs.declared.values.Plmn.{Plmn}
use Rattle.vocabulary.specs.declared.values.Lai.{Lai}
use Rattle.identities.specs.Identities.{four_octets, three_octets, imsi_octets, key_written}
use Rattle.identities.specs.declared.values.Tmsi.{Tmsi}
use Rattle.identities.specs.declared.values.Signature.{Signature}
use Rattle.card.specs.Numbers.{status_number}
use Rattle.card.specs.declared.values.Card.{Card}
use Rattle.card.specs.declared.values.PacketRecord.{PacketRecord}
use Rattle.card.specs.declared.values.Record.{Record}
use Rattle.card.specs.declared.values.Status.{Status}

-- a status is written as one less than its number
abbrev pub status_written : Status → ℕ
status_written s = status_number s - 1

-- the bits of an identity or a signature; none is all ones
abbrev pub identity_bits : Option Tmsi → ℕ
identity_bits None = 0xffff_ffff
identity_bits (Some t) = t.bits

abbrev pub signature_bits : Option Signature → ℕ
signature_bits None = 0xff_ffff
signature_bits (Some s) = s.bits

-- octets 9 to 22: P-TMSI, signature, RAI, status
abbrev pub packet_octets : PacketRecord → List ℕ
packet_octets p =
    four_octets (identity_bits p.base.identity) ++ (three_octets (signature_bits p.signature)
    ++ (rai_octets p.base.area ++ status_written p.base.status ∷ []))

-- octets 23 to 33: TMSI, LAI, one FF, status
abbrev pub circuit_octets : Record Lai → List ℕ
circuit_octets r =
    four_octets (identity_bits r.identity) ++ (lai_octets r.area ++ 0xff ∷ status_written r.status ∷ [])

-- one place of the list: the network that stands there, or FF FF FF
abbrev pub place_octets : List Plmn → ℕ → List ℕ
place_octets [] n = 0xff ∷ 0xff ∷ 0xff ∷ []
place_octets (p ∷ ps) zero = plmn_octets p
place_octets (p ∷ ps) (suc n) = place_octets ps n

-- octets 34 to 45: four places
abbrev pub forbidden_octets : List Plmn → List ℕ
forbidden_octets ps = place_octets ps 0 ++ (place_octets ps 1 ++ (place_octets ps 2 ++ place_octets ps 3))

-- the IMSI as a mobile identity in octets 0 to 8, FF behind it; the keys of both sides in the last two
unfoldable pub image : Card → List ℕ
image c =
    imsi_octets c.imsi ++ (packet_octets c.packet ++ (circuit_octets c.circuit ++ (forbidden_octets c.forbidden
    ++ key_written c.packet.base.key ∷ key_written c.circuit.key ∷ [])))
