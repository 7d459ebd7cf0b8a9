-- What 48 octets mean: the card that is written as them, or none.
use Rattle.std.specs.Prelude.{◌≡◌, ℕ, Bool, true, cond, ◌&&◌, List, [], length, take, drop, Some, None, Option, ◌==◌, nat_le, nat_lt, slice_index}
use Rattle.std.specs.Option.{option_map}
use Rattle.std.specs.Str.{bytes_eq}
use Rattle.vocabulary.specs.Made.{then}
use Rattle.vocabulary.specs.Places.{plmn_in, lai_in, rai_in}
use Rattle.vocabulary.specs.Same.{same_plmn}
use Rattle.vocabulary.specs.declared.values.Plmn.{Plmn}
use Rattle.vocabulary.specs.declared.values.Lai.{Lai}
use Rattle.vocabulary.specs.declared.values.Rai.{Rai}
use Rattle.identities.specs.Identities.{tmsi_in, signature_in, key_when, imsi_of}
use Rattle.identities.specs.declared.values.Imsi.{Imsi}
use Rattle.identities.specs.declared.values.Tmsi.{Tmsi}
use Rattle.identities.specs.declared.values.Signature.{Signature}
use Rattle.lists.specs.Lists.{distinct, added}
use Rattle.card.specs.declared.values.Card.{Card}
use Rattle.card.specs.declared.values.PacketRecord.{PacketRecord}
use Rattle.card.specs.declared.values.Record.{Record}
use Rattle.card.specs.declared.values.Status.{Status}
use Rattle.card.specs.declared.values.Status.TheVariants.{Updated, NotUpdated, NotAllowed}
use Rattle.card_image.specs.Layout.{status_written, image}

-- the n octets from a place on
abbrev pub part_at : ℕ → List ℕ → ℕ → List ℕ
part_at n xs k = take n (drop k xs)

-- what the octets from a place on say; a mark, and what is not lawful, is none
abbrev pub tmsi_at : List ℕ → ℕ → Option Tmsi
tmsi_at xs k = tmsi_in (part_at 4 xs k)

abbrev pub signature_at : List ℕ → ℕ → Option Signature
signature_at xs k = signature_in (part_at 3 xs k)

abbrev pub plmn_at : List ℕ → ℕ → Option Plmn
plmn_at xs k = plmn_in (part_at 3 xs k)

abbrev pub lai_at : List ℕ → ℕ → Option Lai
lai_at xs k = lai_in (part_at 5 xs k)

abbrev pub rai_at : List ℕ → ℕ → Option Rai
rai_at xs k = rai_in (part_at 6 xs k)

abbrev pub status_at : List ℕ → ℕ → Option Status
status_at xs k =
    cond (slice_index xs k == status_written Updated) (Some Updated) (cond (slice_index xs k == status_written NotUpdated) (Some NotUpdated)
    (cond (slice_index xs k == status_written NotAllowed) (Some NotAllowed) None))

-- the first octet is the number of those that code the IMSI
abbrev pub imsi_at_front : List ℕ → Option Imsi
imsi_at_front xs = imsi_of (take (slice_index xs 0) (take 8 (drop 1 xs)))

abbrev pub packet_in : List ℕ → Status → PacketRecord
packet_in xs status =
    record {
      base = record { status = status; identity = tmsi_at xs 9; area = rai_at xs 16; key = key_when (slice_index xs 46) };
      signature = signature_at xs 13;
    }

abbrev pub circuit_in : List ℕ → Status → Record Lai
circuit_in xs status =
    record { status = status; identity = tmsi_at xs 23; area = lai_at xs 27; key = key_when (slice_index xs 47) }

abbrev pub added_some : List Plmn → Option Plmn → List Plmn
added_some ps None = ps
added_some ps (Some p) = added same_plmn 4 ps p

abbrev pub forbidden_in : List ℕ → List Plmn
forbidden_in xs =
    added_some (added_some (added_some (added_some [] (plmn_at xs 34)) (plmn_at xs 37)) (plmn_at xs 40)) (plmn_at xs 43)

-- the only contents that may be written as these octets
abbrev pub likely : List ℕ → Option Card
likely xs =
    then (imsi_at_front xs) (λ imsi. then (status_at xs 22) (λ packet_status. then (status_at xs 33) (λ circuit_status.
    Some (record {
      imsi = imsi;
      packet = packet_in xs packet_status;
      circuit = circuit_in xs circuit_status;
      forbidden = forbidden_in xs;
    }))))

-- the contents that are written as these octets
abbrev pub only_written_so : List ℕ → Option Card → Option Card
only_written_so xs None = None
only_written_so xs (Some c) = cond (bytes_eq (image c) xs) (Some c) None

unfoldable pub contents_in : List ℕ → Option Card
contents_in xs = only_written_so xs (likely xs)

-- an area that a card may hold: its code has two octets
abbrev pub area_fits : Option Lai → Bool
area_fits None = true
area_fits (Some a) = nat_lt a.lac 65536

-- what a card may hold: areas whose codes have two octets, and at most four forbidden networks, none twice
abbrev pub lawful_contents : Card → Bool
lawful_contents c =
    (nat_le (length c.forbidden) 4 && distinct same_plmn c.forbidden)
    && (area_fits (option_map (λ a. a.lai) c.packet.base.area) && area_fits c.circuit.area)

-- The octets mean a card exactly if it is lawful and written as them.
pub record Means (xs : List ℕ) (meant : Option Card) : Type 0 where
  pub lawful : (c : Card) → meant ≡ Some c → lawful_contents c ≡ true
  pub written : (c : Card) → meant ≡ Some c → image c ≡ xs
  pub found : (c : Card) → lawful_contents c ≡ true → image c ≡ xs → meant ≡ Some c
