-- What holds of every frame that is read and of every message that is written, said apart from how either is done.
use Rattle.std.specs.Prelude.{◌≡◌, ℕ, ◌+◌, ◌/◌, ◌<◌, ◌≤◌, ◌≢◌, ◌⊎◌, List, [], ◌∷◌, ◌++◌, length, take, drop, Some, None, Option}
use Rattle.std.specs.List.{AllByRecursion}
use Rattle.vocabulary.specs.Places.{lai_octets, rai_octets}
use Rattle.identities.specs.declared.values.Imsi.{Imsi}
use Rattle.vocabulary.specs.declared.values.Lai.{Lai}
use Rattle.vocabulary.specs.declared.values.Plmn.{Plmn}
use Rattle.vocabulary.specs.declared.values.Rai.{Rai}
use Rattle.identities.specs.declared.values.Signature.{Signature}
use Rattle.identities.specs.declared.values.Tmsi.{Tmsi}
use Rattle.frames.specs.LawsValues.{CodesSignature, CodesTmsi, CodesTimer, CodesPlmns, CodesIdentity}
use Rattle.frames.specs.declared.downlink.CircuitElements.{CircuitElements}
use Rattle.frames.specs.declared.downlink.Downlink.{Downlink}
use Rattle.frames.specs.declared.downlink.Downlink.TheVariants.{AttachAccept, AttachReject, DetachAccept, UpdateAccept, UpdateReject, LocationAccept, LocationReject}
use Rattle.frames.specs.declared.downlink.MobileIdentity.{MobileIdentity}
use Rattle.frames.specs.declared.downlink.MobileIdentity.TheVariants as identity
use Rattle.frames.specs.declared.downlink.PacketElements.{PacketElements}
use Rattle.frames.specs.declared.downlink.PlmnList.{PlmnList}
use Rattle.frames.specs.declared.tags.Side.{Side}
use Rattle.frames.specs.declared.tags.Side.TheVariants.{Packet, Circuit}
use Rattle.frames.specs.declared.uplink.Uplink.{Uplink}
use Rattle.frames.specs.declared.uplink.Uplink.TheVariants.{AttachRequest, AttachComplete, DetachRequest, UpdateRequest, UpdateComplete, DetachIndication, LocationRequest, TmsiComplete}

-- under 2 or over 251 octets
abbrev pub WrongLength : List ℕ → Type 0
WrongLength xs = (length xs < 2) ⊎ (251 < length xs)

-- the protocol of a frame and its type
abbrev pub frame_kind : Downlink → List ℕ
frame_kind (AttachAccept a) = 0x08 ∷ 0x02 ∷ []
frame_kind (AttachReject c es) = 0x08 ∷ 0x04 ∷ []
frame_kind (DetachAccept es) = 0x08 ∷ 0x06 ∷ []
frame_kind (UpdateAccept a) = 0x08 ∷ 0x09 ∷ []
frame_kind (UpdateReject c es) = 0x08 ∷ 0x0b ∷ []
frame_kind (LocationAccept a es) = 0x05 ∷ 0x02 ∷ []
frame_kind (LocationReject c es) = 0x05 ∷ 0x04 ∷ []

-- the octets before the first element
abbrev pub fixed_octets : Downlink → ℕ
fixed_octets (AttachAccept a) = 11
fixed_octets (AttachReject c es) = 3
fixed_octets (DetachAccept es) = 3
fixed_octets (UpdateAccept a) = 10
fixed_octets (UpdateReject c es) = 4
fixed_octets (LocationAccept a es) = 7
fixed_octets (LocationReject c es) = 3

-- mobility management of the packet side or of the circuit side
abbrev pub side_of : Downlink → Side
side_of (AttachAccept a) = Packet
side_of (AttachReject c es) = Packet
side_of (DetachAccept es) = Packet
side_of (UpdateAccept a) = Packet
side_of (UpdateReject c es) = Packet
side_of (LocationAccept a es) = Circuit
side_of (LocationReject c es) = Circuit

-- the tags without a length octet: P-TMSI signature, ready timer and GMM cause
abbrev pub Unlengthed : Side → ℕ → Type 0
Unlengthed Packet tag = (tag ≡ 0x19) ⊎ ((tag ≡ 0x17) ⊎ (tag ≡ 0x25))
Unlengthed Circuit tag = ⊥

-- the value of an element and all octets after its tag: none from 80 on, a fixed number of them, or a length octet and as many as it says
pub data Part : Side → ℕ → List ℕ → List ℕ → Type 0 where
  alone : {side : Side} {tag : ℕ} → 0x80 ≤ tag → Part side tag [] []
  signature : (a b c : ℕ) → Part Packet 0x19 (a ∷ b ∷ c ∷ []) (a ∷ b ∷ c ∷ [])
  ready_timer : (a : ℕ) → Part Packet 0x17 (a ∷ []) (a ∷ [])
  gmm_cause : (a : ℕ) → Part Packet 0x25 (a ∷ []) (a ∷ [])
  lengthed : {side : Side} {tag : ℕ} → tag < 0x80 → (Unlengthed side tag → ⊥) → (value : List ℕ) → Part side tag value (length value ∷ value)

-- element after element, each whole and none with a tag below 10, up to the end of the frame
pub data Elements : Side → List ℕ → Type 0 where
  none : {side : Side} → Elements side []
  more : {side : Side} {tag : ℕ} {value part rest : List ℕ} → 0x10 ≤ tag → Part side tag value part → Elements side rest → Elements side (tag ∷ (part ++ rest))

-- the value of the first element of a tag, or none where no element has that tag
pub data First : Side → ℕ → List ℕ → Option (List ℕ) → Type 0 where
  absent : {side : Side} {tag : ℕ} → First side tag [] None
  here : {side : Side} {tag : ℕ} {value part : List ℕ} (rest : List ℕ) → Part side tag value part → First side tag (tag ∷ (part ++ rest)) (Some value)
  later : {side : Side} {tag other : ℕ} {value part rest : List ℕ} {first : Option (List ℕ)} → other ≢ tag → Part side other value part → First side tag rest first → First side tag (other ∷ (part ++ rest)) first

-- what is read is what the first element of a tag codes, and none exactly where no element has that tag
abbrev pub FromFirst : {X : Type 0} → Side → ℕ → (List ℕ → X → Type 0) → Option X → List ℕ → Type 0
FromFirst side tag Codes None xs = First side tag xs None
FromFirst side tag Codes (Some x) xs = (value : List ℕ) × First side tag xs (Some value) × Codes value x

-- the elements of the packet side: P-TMSI signature, P-TMSI, T3302 and equivalent PLMNs
pub record PacketValues (es : PacketElements) (xs : List ℕ) : Type 0 where
  pub signature : FromFirst Packet 0x19 CodesSignature es.signature xs
  pub p_tmsi : FromFirst Packet 0x18 CodesTmsi es.p_tmsi xs
  pub t3302 : FromFirst Packet 0x2a CodesTimer es.t3302 xs
  pub equivalents : FromFirst Packet 0x4a CodesPlmns es.equivalents xs

-- the elements of the circuit side: mobile identity and equivalent PLMNs
pub record CircuitValues (es : CircuitElements) (xs : List ℕ) : Type 0 where
  pub identity : FromFirst Circuit 0x17 CodesIdentity es.identity xs
  pub equivalents : FromFirst Circuit 0x4a CodesPlmns es.equivalents xs

-- the values that a message gives, by the octets after the fixed ones
abbrev pub ValuesStand : Downlink → List ℕ → Type 0
ValuesStand (AttachAccept a) xs = PacketValues a.elements xs
ValuesStand (AttachReject c es) xs = PacketValues es xs
ValuesStand (DetachAccept es) xs = PacketValues es xs
ValuesStand (UpdateAccept a) xs = PacketValues a.elements xs
ValuesStand (UpdateReject c es) xs = PacketValues es xs
ValuesStand (LocationAccept a es) xs = CircuitValues es xs
ValuesStand (LocationReject c es) xs = CircuitValues es xs

-- an area code that is not the mark FFFE
abbrev pub NoMarkArea : Lai → Type 0
NoMarkArea a = a.lac ≢ 0xfffe

-- 32 bits that are not all ones
abbrev pub NoMarkTmsi : Option Tmsi → Type 0
NoMarkTmsi (Some t) = t.bits ≢ 0xffff_ffff
NoMarkTmsi None = Unit {0}

-- 24 bits that are not all ones
abbrev pub NoMarkSignature : Option Signature → Type 0
NoMarkSignature (Some g) = g.bits ≢ 0xff_ffff
NoMarkSignature None = Unit {0}

-- a TMSI as above; an IMSI has no mark
abbrev pub NoMarkIdentity : Option MobileIdentity → Type 0
NoMarkIdentity (Some (identity.Tmsi t)) = NoMarkTmsi (Some t)
NoMarkIdentity (Some (identity.Imsi i)) = Unit {0}
NoMarkIdentity None = Unit {0}

-- the signature and the P-TMSI, where they are there
abbrev pub NoMarksPacket : PacketElements → Type 0
NoMarksPacket es = NoMarkSignature es.signature × NoMarkTmsi es.p_tmsi

-- a mark says that there is no value, and is not taken as one
abbrev pub NoMarks : Downlink → Type 0
NoMarks (AttachAccept a) = NoMarkArea a.rai.lai × NoMarksPacket a.elements
NoMarks (AttachReject c es) = NoMarksPacket es
NoMarks (DetachAccept es) = NoMarksPacket es
NoMarks (UpdateAccept a) = NoMarkArea a.rai.lai × NoMarksPacket a.elements
NoMarks (UpdateReject c es) = NoMarksPacket es
NoMarks (LocationAccept a es) = NoMarkArea a × NoMarkIdentity es.identity
NoMarks (LocationReject c es) = NoMarkIdentity es.identity

-- the area of an accept is the one whose octets stand in the frame
abbrev pub AreaStands : Downlink → List ℕ → Type 0
AreaStands (AttachAccept a) xs = rai_octets (Some a.rai) ≡ take 6 (drop 5 xs)
AreaStands (AttachReject c es) xs = Unit {0}
AreaStands (DetachAccept es) xs = Unit {0}
AreaStands (UpdateAccept a) xs = rai_octets (Some a.rai) ≡ take 6 (drop 4 xs)
AreaStands (UpdateReject c es) xs = Unit {0}
AreaStands (LocationAccept a es) xs = lai_octets (Some a) ≡ take 5 (drop 2 xs)
AreaStands (LocationReject c es) xs = Unit {0}

-- a third digit of the network code, where there is one
abbrev pub ThirdDigit : Option ℕ → Type 0
ThirdDigit (Some n) = n < 10
ThirdDigit None = Unit {0}

-- decimal digits in the country code and in the network code
pub record Decimal (p : Plmn) : Type 0 where
  pub country : (p.mcc1 < 10) × (p.mcc2 < 10) × (p.mcc3 < 10)
  pub network : (p.mnc1 < 10) × (p.mnc2 < 10)
  pub third : ThirdDigit p.mnc3

-- an entry of a list, where it is filled
abbrev pub DecimalEntry : Option Plmn → Type 0
DecimalEntry (Some p) = Decimal p
DecimalEntry None = Unit {0}

-- each of the equivalent networks
abbrev pub DecimalList : Option PlmnList → Type 0
DecimalList (Some l) = AllByRecursion DecimalEntry l.entries
DecimalList None = Unit {0}

-- every network that a message names has decimal digits
abbrev pub DecimalPlaces : Downlink → Type 0
DecimalPlaces (AttachAccept a) = Decimal a.rai.lai.plmn × DecimalList a.elements.equivalents
DecimalPlaces (AttachReject c es) = DecimalList es.equivalents
DecimalPlaces (DetachAccept es) = DecimalList es.equivalents
DecimalPlaces (UpdateAccept a) = Decimal a.rai.lai.plmn × DecimalList a.elements.equivalents
DecimalPlaces (UpdateReject c es) = DecimalList es.equivalents
DecimalPlaces (LocationAccept a es) = Decimal a.plmn × DecimalList es.equivalents
DecimalPlaces (LocationReject c es) = DecimalList es.equivalents

-- what is read out of a frame obeys the layout
pub record Obeys (m : Downlink) (xs : List ℕ) : Type 0 where
  pub within : (2 ≤ length xs) × (length xs ≤ 251)
  pub kind : take 2 xs ≡ frame_kind m
  pub fixed : fixed_octets m ≤ length xs
  pub elements : Elements (side_of m) (drop (fixed_octets m) xs)
  pub values : ValuesStand m (drop (fixed_octets m) xs)
  pub no_marks : NoMarks m
  pub area : AreaStands m xs
  pub places : DecimalPlaces m

-- the protocol of a message and its type
abbrev pub message_kind : Uplink → List ℕ
message_kind (AttachRequest t s) = 0x08 ∷ 0x01 ∷ []
message_kind AttachComplete = 0x08 ∷ 0x03 ∷ []
message_kind (DetachRequest d) = 0x08 ∷ 0x05 ∷ []
message_kind (UpdateRequest u t s) = 0x08 ∷ 0x08 ∷ []
message_kind UpdateComplete = 0x08 ∷ 0x0a ∷ []
message_kind (DetachIndication t s) = 0x05 ∷ 0x01 ∷ []
message_kind (LocationRequest u t s) = 0x05 ∷ 0x08 ∷ []
message_kind TmsiComplete = 0x05 ∷ 0x1b ∷ []

-- an identity with its length octet: a TMSI has four octets and its type, an IMSI two digits to an octet and its type beside the first
abbrev pub identity_length : Option Tmsi → Imsi → ℕ
identity_length (Some t) i = 6
identity_length None i = i.len / 2 + 2

-- a signature of three octets with its tag
abbrev pub signature_length : Option Signature → ℕ
signature_length (Some g) = 4
signature_length None = 0

-- in an attach request a P-TMSI goes only with its routing area, and a signature only with the P-TMSI
abbrev pub attach_identity_length : Option Rai → Option Tmsi → Option Signature → Imsi → ℕ
attach_identity_length (Some a) (Some t) g i = identity_length (Some t) i + signature_length g
attach_identity_length (Some a) None g i = identity_length None i
attach_identity_length None p g i = identity_length None i

-- the octets of a message, field after field
abbrev pub layout_length : Uplink → ℕ
layout_length (AttachRequest t s) = 2 + 3 + 1 + 2 + 6 + 13 + attach_identity_length s.rai s.p_tmsi s.signature s.imsi
layout_length AttachComplete = 2
layout_length (DetachRequest d) = 2 + 1
layout_length (UpdateRequest u t s) = 2 + 1 + 6 + 13 + signature_length s.signature
layout_length UpdateComplete = 2
layout_length (DetachIndication t s) = 2 + 1 + identity_length s.tmsi s.imsi
layout_length (LocationRequest u t s) = 2 + 1 + 5 + 1 + identity_length s.tmsi s.imsi
layout_length TmsiComplete = 2

-- a message of n octets at the front of an area
pub record LaidOut (m : Uplink) (n : ℕ) (area : List ℕ) : Type 0 where
  pub long : n ≡ layout_length m
  pub kind : take 2 area ≡ message_kind m
