-- Each value that is read is that of the first element of its tag.
use Rattle.std.proofs.Common.{◌≡◌, ℕ, List, None, Ok, refl, subst}
use Rattle.frames.specs.Elements.{nothing, walk, noted, packet_found, circuit_found}
use Rattle.frames.specs.Laws.{PacketValues, CircuitValues}
use Rattle.frames.specs.LawsValues.{CodesTmsi, CodesSignature, CodesTimer, CodesPlmns, CodesIdentity}
use Rattle.frames.specs.Values.{tmsi_value, identity_value, signature_value, timer_value, plmns_value}
use Rattle.frames.specs.declared.downlink.CircuitElements.{CircuitElements}
use Rattle.frames.specs.declared.downlink.PacketElements.{PacketElements}
use Rattle.frames.specs.declared.found.Found.{Found}
use Rattle.frames.specs.declared.tags.Side.TheVariants.{Packet, Circuit}
use Rattle.frames.proofs.LawsCodes.{codes_tmsi, codes_signature, codes_timer}
use Rattle.frames.proofs.LawsElements.{Octets, meant}
use Rattle.frames.proofs.LawsFirst.{from_first}
use Rattle.frames.proofs.LawsIdentities.{codes_identity}
use Rattle.frames.proofs.LawsPlmns.{codes_plmns}

pub packet_values : (g : Found) (es : PacketElements) (at : ℕ) (xs : List ℕ) → packet_found g ≡ es → Octets xs → g.bad ≡ None → walk Packet nothing at xs 0 ≡ Ok g → PacketValues es xs
packet_values g es at xs same octets clean e =
    subst (λ x. PacketValues x xs) same (record {
      signature =
          from_first Packet 0x19 CodesSignature (λ f. f.signature) signature_value (λ f v at. refl) (λ f v at. refl)
          (λ other f v at ne. meant Packet other (λ k. (noted k f v at).signature ≡ f.signature)
          (λ t. absurd (ne t)) (λ _. refl) (λ _. refl) (λ _. refl) (λ _. refl) (λ _. refl) (λ _. refl))
          codes_signature g at xs refl octets clean e;
      p_tmsi =
          from_first Packet 0x18 CodesTmsi (λ f. f.p_tmsi) tmsi_value (λ f v at. refl) (λ f v at. refl)
          (λ other f v at ne. meant Packet other (λ k. (noted k f v at).p_tmsi ≡ f.p_tmsi)
          (λ _. refl) (λ t. absurd (ne t)) (λ _. refl) (λ _. refl) (λ _. refl) (λ _. refl) (λ _. refl))
          codes_tmsi g at xs refl octets clean e;
      t3302 =
          from_first Packet 0x2a CodesTimer (λ f. f.t3302) timer_value (λ f v at. refl) (λ f v at. refl)
          (λ other f v at ne. meant Packet other (λ k. (noted k f v at).t3302 ≡ f.t3302)
          (λ _. refl) (λ _. refl) (λ t. absurd (ne t)) (λ _. refl) (λ _. refl) (λ _. refl) (λ _. refl))
          codes_timer g at xs refl octets clean e;
      equivalents =
          from_first Packet 0x4a CodesPlmns (λ f. f.equivalents) plmns_value (λ f v at. refl) (λ f v at. refl)
          (λ other f v at ne. meant Packet other (λ k. (noted k f v at).equivalents ≡ f.equivalents)
          (λ _. refl) (λ _. refl) (λ _. refl) (λ _. refl) (λ t. absurd (ne t)) (λ _. refl) (λ _. refl))
          codes_plmns g at xs refl octets clean e;
    })

pub circuit_values : (g : Found) (es : CircuitElements) (at : ℕ) (xs : List ℕ) → circuit_found g ≡ es → Octets xs → g.bad ≡ None → walk Circuit nothing at xs 0 ≡ Ok g → CircuitValues es xs
circuit_values g es at xs same octets clean e =
    subst (λ x. CircuitValues x xs) same (record {
      identity =
          from_first Circuit 0x17 CodesIdentity (λ f. f.identity) identity_value (λ f v at. refl) (λ f v at. refl)
          (λ other f v at ne. meant Circuit other (λ k. (noted k f v at).identity ≡ f.identity)
          (λ _. refl) (λ _. refl) (λ _. refl) (λ t. absurd (ne t)) (λ _. refl) (λ _. refl) (λ _. refl))
          codes_identity g at xs refl octets clean e;
      equivalents =
          from_first Circuit 0x4a CodesPlmns (λ f. f.equivalents) plmns_value (λ f v at. refl) (λ f v at. refl)
          (λ other f v at ne. meant Circuit other (λ k. (noted k f v at).equivalents ≡ f.equivalents)
          (λ _. refl) (λ _. refl) (λ _. refl) (λ _. refl) (λ t. absurd (ne t)) (λ _. refl) (λ _. refl))
          codes_plmns g at xs refl octets clean e;
    })
