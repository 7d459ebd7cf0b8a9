-- What a frame of the network means, or why it is refused: for every string of octets.
use Rattle.std.specs.Prelude.{ℕ, ◌+◌, ◌/◌, ◌%◌, Bool, cond, ◌&&◌, List, length, Some, None, Ok, Err, Option, Result, ◌==◌, nat_lt, slice_index}
use Rattle.std.specs.List.{between}
use Rattle.vocabulary.specs.Places.{rai_of, lai_of}
use Rattle.vocabulary.specs.Timers.{gprs_seconds}
use Rattle.vocabulary.specs.declared.values.Lai.{Lai}
use Rattle.vocabulary.specs.declared.values.Rai.{Rai}
use Rattle.frames.specs.Causes.{cause_of}
use Rattle.frames.specs.Elements.{nothing, walk, packet_elements, circuit_elements}
use Rattle.frames.specs.declared.downlink.Downlink.{Downlink}
use Rattle.frames.specs.declared.downlink.Downlink.TheVariants.{AttachAccept, AttachReject, DetachAccept, UpdateAccept, UpdateReject, LocationAccept, LocationReject}
use Rattle.frames.specs.declared.downlink.PacketAccept.{PacketAccept}
use Rattle.frames.specs.declared.faults.ElementFault.{ElementFault}
use Rattle.frames.specs.declared.faults.FrameFault.{FrameFault}
use Rattle.frames.specs.declared.faults.FrameFault.TheVariants.{Length, UnknownFrame, Cut, BadValue, Element}
use Rattle.frames.specs.declared.found.Found.{Found}
use Rattle.frames.specs.declared.tags.Side.{Side}
use Rattle.frames.specs.declared.tags.Side.TheVariants.{Packet, Circuit}

-- what follows where the elements are right; else their fault, inside the frame's
abbrev pub onward : {X Y : Type 0} → Result X ElementFault → (X → Result Y FrameFault) → Result Y FrameFault
onward (Err e) next = Err (Element e)
onward (Ok x) next = next x

-- what follows a fixed field that has a value; else the refusal of a bad value at its first octet
abbrev pub field : {X Y : Type 0} → ℕ → Option X → (X → Result Y FrameFault) → Result Y FrameFault
field at None next = Err (BadValue at)
field at (Some x) next = next x

-- a frame whose fixed octets are n: it may be cut short in them, or in the elements after them
abbrev pub framed : {Y : Type 0} → Side → ℕ → List ℕ → (Found → Result Y FrameFault) → Result Y FrameFault
framed side n xs next =
    cond (nat_lt (length xs) n) (Err (Cut (length xs + 1))) (onward (walk side nothing (n + 1) (between n (length xs) xs) 0) next)

-- what an accept of the packet side says, from its timer octet and its area at an octet
abbrev pub packet_accept : ℕ → ℕ → Option Rai → Found → Result PacketAccept FrameFault
packet_accept timer at area f =
    field at area (λ rai. onward (packet_elements f) (λ es. Ok (record { t3312 = gprs_seconds timer; rai = rai; elements = es })))

-- an accept as the frame that it came in
abbrev pub accepted : (PacketAccept → Downlink) → Result PacketAccept FrameFault → Result Downlink FrameFault
accepted frame (Ok accept) = Ok (frame accept)
accepted frame (Err fault) = Err fault

-- the results that are read: GPRS only attached, routing area updated
abbrev pub gprs_attached : ℕ
gprs_attached = 1

abbrev pub area_updated : ℕ
area_updated = 0

-- attach accept: the result in the low half of octet 3; T3312; one octet; the routing area
abbrev pub attach_accepted : ℕ → ℕ → Option Rai → Found → Result Downlink FrameFault
attach_accepted result timer area f = cond (result % 16 == gprs_attached) (accepted AttachAccept (packet_accept timer 6 area f)) (Err (BadValue 3))

abbrev pub attach_accept : List ℕ → Result Downlink FrameFault
attach_accept xs = framed Packet 11 xs (attach_accepted (slice_index xs 2) (slice_index xs 3) (rai_of (slice_index xs 5) (slice_index xs 6) (slice_index xs 7) (slice_index xs 8) (slice_index xs 9) (slice_index xs 10)))

-- routing area update accept: the result in the high half of octet 3; T3312; the routing area
abbrev pub update_accepted : ℕ → ℕ → Option Rai → Found → Result Downlink FrameFault
update_accepted result timer area f = cond (result / 16 == area_updated) (accepted UpdateAccept (packet_accept timer 5 area f)) (Err (BadValue 3))

abbrev pub update_accept : List ℕ → Result Downlink FrameFault
update_accept xs = framed Packet 10 xs (update_accepted (slice_index xs 2) (slice_index xs 3) (rai_of (slice_index xs 4) (slice_index xs 5) (slice_index xs 6) (slice_index xs 7) (slice_index xs 8) (slice_index xs 9)))

-- attach reject: the cause
abbrev pub attach_rejected : ℕ → Found → Result Downlink FrameFault
attach_rejected cause f = onward (packet_elements f) (λ es. Ok (AttachReject (cause_of cause) es))

abbrev pub attach_reject : List ℕ → Result Downlink FrameFault
attach_reject xs = framed Packet 3 xs (attach_rejected (slice_index xs 2))

-- routing area update reject: the cause; one octet
abbrev pub update_rejected : ℕ → Found → Result Downlink FrameFault
update_rejected cause f = onward (packet_elements f) (λ es. Ok (UpdateReject (cause_of cause) es))

abbrev pub update_reject : List ℕ → Result Downlink FrameFault
update_reject xs = framed Packet 4 xs (update_rejected (slice_index xs 2))

-- detach accept: one octet
abbrev pub detach_accepted : Found → Result Downlink FrameFault
detach_accepted f = onward (packet_elements f) (λ es. Ok (DetachAccept es))

abbrev pub detach_accept : List ℕ → Result Downlink FrameFault
detach_accept xs = framed Packet 3 xs detach_accepted

-- location updating accept: the location area
abbrev pub location_accepted : Option Lai → Found → Result Downlink FrameFault
location_accepted area f = field 3 area (λ lai. onward (circuit_elements f) (λ es. Ok (LocationAccept lai es)))

abbrev pub location_accept : List ℕ → Result Downlink FrameFault
location_accept xs = framed Circuit 7 xs (location_accepted (lai_of (slice_index xs 2) (slice_index xs 3) (slice_index xs 4) (slice_index xs 5) (slice_index xs 6)))

-- location updating reject: the cause
abbrev pub location_rejected : ℕ → Found → Result Downlink FrameFault
location_rejected cause f = onward (circuit_elements f) (λ es. Ok (LocationReject (cause_of cause) es))

abbrev pub location_reject : List ℕ → Result Downlink FrameFault
location_reject xs = framed Circuit 3 xs (location_rejected (slice_index xs 2))

-- the first two octets say which frame it is
abbrev pub begins : ℕ → ℕ → List ℕ → Bool
begins a b xs = slice_index xs 0 == a && slice_index xs 1 == b

abbrev pub by_kind : List ℕ → Result Downlink FrameFault
by_kind xs =
    cond (begins 0x08 0x02 xs) (attach_accept xs)
    (cond (begins 0x08 0x04 xs) (attach_reject xs)
    (cond (begins 0x08 0x06 xs) (detach_accept xs)
    (cond (begins 0x08 0x09 xs) (update_accept xs)
    (cond (begins 0x08 0x0b xs) (update_reject xs)
    (cond (begins 0x05 0x02 xs) (location_accept xs)
    (cond (begins 0x05 0x04 xs) (location_reject xs) (Err UnknownFrame)))))))

abbrev pub decoded : List ℕ → Result Downlink FrameFault
decoded xs = cond (nat_lt (length xs) 2) (Err Length) (cond (nat_lt 251 (length xs)) (Err Length) (by_kind xs))
