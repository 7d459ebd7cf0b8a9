-- The octets of a lawful card mean that card.
use Rattle.std.proofs.Common.{◌≡◌, ℕ, ◌≤◌, true, ◌&&◌, List, [], ◌∷◌, ◌++◌, length, Some, None, Option, sym, refl, ap, ◌∙◌}
use Rattle.std.specs.Option.{option_map}
use Rattle.std.specs.Str.{bytes_eq}
use Rattle.std.proofs.lemmas.Slice.Eq.{bytes_eq-Decides}
use Rattle.std.proofs.lemmas.Bool.{and_parts, and_from, cond-true, leb-true}
use Rattle.vocabulary.specs.Made.{then}
use Rattle.vocabulary.specs.Same.{same_plmn}
use Rattle.vocabulary.specs.declared.values.Lai.{Lai}
use Rattle.vocabulary.specs.declared.values.Rai.{Rai}
use Rattle.vocabulary.proofs.Inversions.{some_same}
use Rattle.identities.specs.Identities.{imsi_octets, key_written}
use Rattle.identities.proofs.Back.{imsi_back}
use Rattle.lists.specs.Lists.{distinct}
use Rattle.card.specs.declared.values.Card.{Card}
use Rattle.card_image.specs.Layout.{image}
use Rattle.card_image.specs.Meaning.{likely, only_written_so, contents_in, area_fits, lawful_contents}
use Rattle.card_image.proofs.Opened.{packet_list, packet_opened, circuit_list, circuit_opened, forbidden_list, forbidden_opened}
use Rattle.card_image.proofs.Parts.{identity_again, signature_again, lai_read, rai_read, lai_again, rai_again, fits_from_lai, fits_from_rai, status_again, key_again, forbidden_again}

-- the octets of an image one by one
abbrev image_list : Card → List ℕ
image_list c =
    imsi_octets c.imsi ++ (packet_list c.packet ++ (circuit_list c.circuit
    ++ forbidden_list c.forbidden (key_written c.packet.base.key ∷ key_written c.circuit.key ∷ [])))

image_opened : (c : Card) → image c ≡ image_list c
unfolding image
image_opened c =
    λ k. imsi_octets c.imsi ++ (packet_opened c.packet k ++ (circuit_opened c.circuit k
    ++ forbidden_opened c.forbidden (key_written c.packet.base.key ∷ key_written c.circuit.key ∷ []) k))

-- the contents with other areas
abbrev with_areas : Card → Option Rai → Option Lai → Card
with_areas c routing location =
    record {
      imsi = c.imsi;
      packet = record {
        base = record { status = c.packet.base.status; identity = c.packet.base.identity; area = routing; key = c.packet.base.key };
        signature = c.packet.signature;
      };
      circuit = record { status = c.circuit.status; identity = c.circuit.identity; area = location; key = c.circuit.key };
      forbidden = c.forbidden;
    }

-- all parts read back, save the areas, which are read from their octets
parts_read : (c : Card) → length c.forbidden ≤ 4 → distinct same_plmn c.forbidden ≡ true
    → likely (image_list c) ≡ Some (with_areas c (rai_read c.packet.base.area) (lai_read c.circuit.area))
parts_read c few once =
    λ k. then (imsi_back c.imsi k) (λ imsi. then (status_again c.packet.base.status k) (λ packet_status.
    then (status_again c.circuit.status k) (λ circuit_status. Some (record {
      imsi = imsi;
      packet = record {
        base = record {
          status = packet_status;
          identity = identity_again c.packet.base.identity k;
          area = rai_read c.packet.base.area;
          key = key_again c.packet.base.key k;
        };
        signature = signature_again c.packet.signature k;
      };
      circuit = record {
        status = circuit_status;
        identity = identity_again c.circuit.identity k;
        area = lai_read c.circuit.area;
        key = key_again c.circuit.key k;
      };
      forbidden = forbidden_again c.forbidden few once k;
    }))))

list_read : (c : Card) → lawful_contents c ≡ true → likely (image_list c) ≡ Some c
list_read c lawful =
    let parts = and_parts _ _ lawful in
    let networks = and_parts _ _ parts.0 in
    let fit = and_parts _ _ parts.1 in
    parts_read c (leb-true (length c.forbidden) 4 networks.0) networks.1
    ∙ (λ k. Some (with_areas c (rai_again c.packet.base.area fit.0 k) (lai_again c.circuit.area fit.1 k)))

-- the areas of contents that are read from their own image fit
pub areas_fit : (c : Card) → length c.forbidden ≤ 4 → distinct same_plmn c.forbidden ≡ true → likely (image c) ≡ Some c
    → area_fits (option_map (λ a. a.lai) c.packet.base.area) && area_fits c.circuit.area ≡ true
areas_fit c few once e =
    let read = with_areas c (rai_read c.packet.base.area) (lai_read c.circuit.area) in
    let same = some_same read c (sym (ap likely (image_opened c) ∙ parts_read c few once) ∙ e) in
    and_from _ _ (fits_from_rai c.packet.base.area (ap (λ x. x.packet.base.area) same)) (fits_from_lai c.circuit.area (ap (λ x. x.circuit.area) same))

pub image_read : (c : Card) → lawful_contents c ≡ true → contents_in (image c) ≡ Some c
unfolding contents_in
image_read c lawful =
    ap (only_written_so (image c)) (ap likely (image_opened c) ∙ list_read c lawful)
    ∙ cond-true (bytes_eq (image c) (image c)) (Some c) None ((bytes_eq-Decides (image c) (image c)).1 refl)
