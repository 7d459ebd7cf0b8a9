-- The octets of every message that the modem sends.
use Rattle.std.specs.Prelude.{ℕ, ◌+◌, ◌*◌, List, [], ◌∷◌, ◌++◌, take, Some, None, Option, slice_index}
use Rattle.vocabulary.specs.Places.{lai_octets, rai_octets}
use Rattle.identities.specs.Identities.{tmsi_octets, signature_octets, key_written, imsi_octets}
use Rattle.identities.specs.declared.values.Imsi.{Imsi}
use Rattle.identities.specs.declared.values.KeyNumber.{KeyNumber}
use Rattle.vocabulary.specs.declared.values.Rai.{Rai}
use Rattle.identities.specs.declared.values.Signature.{Signature}
use Rattle.identities.specs.declared.values.Tmsi.{Tmsi}
use Rattle.frames.specs.declared.fields.RequestType.{RequestType}
use Rattle.frames.specs.declared.fields.RequestType.TheVariants.{Attach, Routing, Location}
use Rattle.frames.specs.declared.terminal.Terminal.{Terminal}
use Rattle.frames.specs.declared.uplink.DetachType.{DetachType}
use Rattle.frames.specs.declared.uplink.DetachType.TheVariants as detach
use Rattle.frames.specs.declared.uplink.LocationUpdate.{LocationUpdate}
use Rattle.frames.specs.declared.uplink.LocationUpdate.TheVariants as location
use Rattle.frames.specs.declared.uplink.PacketStored.{PacketStored}
use Rattle.frames.specs.declared.uplink.RoutingUpdate.{RoutingUpdate}
use Rattle.frames.specs.declared.uplink.RoutingUpdate.TheVariants as routing
use Rattle.frames.specs.declared.uplink.Uplink.{Uplink}
use Rattle.frames.specs.declared.uplink.Uplink.TheVariants.{AttachRequest, AttachComplete, DetachRequest, UpdateRequest, UpdateComplete, DetachIndication, LocationRequest, TmsiComplete}

-- the types by their numbers
abbrev pub routing_type : RoutingUpdate → ℕ
routing_type routing.Normal = 0
routing_type routing.Periodic = 3

abbrev pub location_type : LocationUpdate → ℕ
location_type location.Normal = 0
location_type location.Periodic = 1
location_type location.ImsiAttach = 2

abbrev pub detach_type : DetachType → ℕ
detach_type detach.Gprs = 1
detach_type detach.SwitchOff = 9

-- an attach is for GPRS alone
abbrev pub attach_type : ℕ
attach_type = 1

-- the type that shares its octet with the key number
abbrev pub request_type : RequestType → ℕ
request_type Attach = attach_type
request_type (Routing update) = routing_type update
request_type (Location update) = location_type update

-- the key number in the high half, the type in the low half
abbrev pub key_and_type : Option KeyNumber → ℕ → ℕ
key_and_type key type = key_written key * 16 + type

-- an identity: a TMSI as 05 F4 and its four octets, else the IMSI with its length in front
abbrev pub identity_octets : Option Tmsi → Imsi → List ℕ
identity_octets (Some t) i = 0x05 ∷ 0xf4 ∷ tmsi_octets t
identity_octets None i = take (slice_index (imsi_octets i) 0 + 1) (imsi_octets i)

-- a P-TMSI is sent only if the routing area is stored that it belongs to
abbrev pub sent_p_tmsi : PacketStored → Option Tmsi
sent_p_tmsi s = with_area s.rai s.p_tmsi
  where
    with_area : Option Rai → Option Tmsi → Option Tmsi
    with_area None t = None
    with_area (Some a) t = t

-- the signature as an element, where there is one
abbrev pub signature_element : Option Signature → List ℕ
signature_element None = []
signature_element (Some s) = 0x19 ∷ signature_octets s

-- in an attach request a signature goes only with a P-TMSI
abbrev pub attach_signature : Option Tmsi → Option Signature → Option Signature
attach_signature None s = None
attach_signature (Some t) s = s

-- an attach request up to the identity
abbrev pub attach_front : Terminal → PacketStored → Option Tmsi → List ℕ
attach_front t s p =
    (0x08 ∷ 0x01 ∷ 0x02 ∷ []) ++ (t.capability ++ ((key_and_type s.key attach_type ∷ []) ++ (t.drx ++ identity_octets p s.imsi)))

abbrev pub octets_of : Uplink → List ℕ
octets_of (AttachRequest t s) =
    attach_front t s (sent_p_tmsi s)
    ++ (rai_octets s.rai ++ ((0x0c ∷ []) ++ (t.radio ++ signature_element (attach_signature (sent_p_tmsi s) s.signature))))
octets_of AttachComplete = 0x08 ∷ 0x03 ∷ []
octets_of (DetachRequest d) = 0x08 ∷ 0x05 ∷ detach_type d ∷ []
octets_of (UpdateRequest u t s) =
    (0x08 ∷ 0x08 ∷ key_and_type s.key (routing_type u) ∷ [])
    ++ (rai_octets s.rai ++ ((0x0c ∷ []) ++ (t.radio ++ signature_element s.signature)))
octets_of UpdateComplete = 0x08 ∷ 0x0a ∷ []
octets_of (DetachIndication t s) = (0x05 ∷ 0x01 ∷ t.classmark ∷ []) ++ identity_octets s.tmsi s.imsi
octets_of (LocationRequest u t s) =
    (0x05 ∷ 0x08 ∷ key_and_type s.key (location_type u) ∷ [])
    ++ (lai_octets s.lai ++ ((t.classmark ∷ []) ++ identity_octets s.tmsi s.imsi))
octets_of TmsiComplete = 0x05 ∷ 0x1b ∷ []
