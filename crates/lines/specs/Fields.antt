-- The message that the fields of a line make.
use Rattle.std.specs.Prelude.{Bool, true, false, ◌||◌, Some, None, Ok, Err, Option, Result}
use Rattle.std.specs.Option.{unwrap_or}
use Rattle.identities.specs.declared.values.Imsi.{Imsi}
use Rattle.frames.specs.declared.terminal.Terminal.{Terminal}
use Rattle.frames.specs.declared.uplink.CircuitStored.{CircuitStored}
use Rattle.frames.specs.declared.uplink.DetachType.{DetachType}
use Rattle.frames.specs.declared.uplink.DetachType.TheVariants as detach
use Rattle.frames.specs.declared.uplink.LocationUpdate.{LocationUpdate}
use Rattle.frames.specs.declared.uplink.LocationUpdate.TheVariants as location
use Rattle.frames.specs.declared.uplink.PacketStored.{PacketStored}
use Rattle.frames.specs.declared.uplink.RoutingUpdate.{RoutingUpdate}
use Rattle.frames.specs.declared.uplink.RoutingUpdate.TheVariants as routing
use Rattle.frames.specs.declared.uplink.Uplink.{Uplink}
use Rattle.frames.specs.declared.uplink.Uplink.TheVariants as uplink
use Rattle.answers.specs.declared.asked.BadLine.{BadLine}
use Rattle.answers.specs.declared.asked.BadLine.TheVariants.{BadValue, NoImsi}
use Rattle.answers.specs.declared.asked.Name.{Name}
use Rattle.answers.specs.declared.asked.Name.TheVariants as name
use Rattle.lines.specs.declared.fields.Fields.{Fields}
use Rattle.lines.specs.declared.words.Kind.{Kind}
use Rattle.lines.specs.declared.words.Kind.TheVariants as kind
use Rattle.lines.specs.declared.words.TypeWord.{TypeWord}
use Rattle.lines.specs.declared.words.TypeWord.TheVariants as word

-- where a field stands: with every request that names the subscriber, on one side alone, or as the type
pub data Place : Type 0 where
  both : Place
  packet : Place
  circuit : Place
  type : Place

abbrev pub place : Name → Place
place name.Imsi = both
place name.Tmsi = both
place name.Key = both
place name.Classmark = both
place name.Capability = both
place name.Drx = both
place name.Radio = both
place name.Rai = packet
place name.Signature = packet
place name.Lai = circuit
place name.Type = type

abbrev pub on_packet : Place → Bool
on_packet both = true
on_packet packet = true
on_packet circuit = false
on_packet type = false

abbrev pub on_circuit : Place → Bool
on_circuit both = true
on_circuit packet = false
on_circuit circuit = true
on_circuit type = false

abbrev pub is_type : Place → Bool
is_type both = false
is_type packet = false
is_type circuit = false
is_type type = true

-- the fields that a message has a use for: updates and a detach have a type
abbrev pub belongs : Kind → Name → Bool
belongs kind.Attach n = on_packet (place n)
belongs kind.Update n = on_packet (place n) || is_type (place n)
belongs kind.Location n = on_circuit (place n) || is_type (place n)
belongs kind.Indication n = on_circuit (place n)
belongs kind.Detach n = is_type (place n)
belongs kind.AttachComplete n = false
belongs kind.UpdateComplete n = false
belongs kind.TmsiComplete n = false

-- what follows where a part of the message is lawful; else why it is not
abbrev pub onward : {X Y : Type 0} → Result X BadLine → (X → Result Y BadLine) → Result Y BadLine
onward (Err reason) next = Err reason
onward (Ok x) next = next x

-- the IMSI is mandatory
abbrev pub with_imsi : {Y : Type 0} → Option Imsi → (Imsi → Y) → Result Y BadLine
with_imsi None make = Err NoImsi
with_imsi (Some i) make = Ok (make i)

abbrev pub packet_of : Fields → Result PacketStored BadLine
packet_of f = with_imsi f.imsi (λ i. record { imsi = i; p_tmsi = f.tmsi; signature = f.signature; rai = f.rai; key = unwrap_or f.key None })

abbrev pub circuit_of : Fields → Result CircuitStored BadLine
circuit_of f = with_imsi f.imsi (λ i. record { imsi = i; tmsi = f.tmsi; lai = f.lai; key = unwrap_or f.key None })

-- a type left out is the normal one; a detach is for GPRS unless the modem is switched off
abbrev pub routing_of : Option TypeWord → Result RoutingUpdate BadLine
routing_of None = Ok routing.Normal
routing_of (Some word.Normal) = Ok routing.Normal
routing_of (Some word.Periodic) = Ok routing.Periodic
routing_of (Some word.ImsiAttach) = Err (BadValue name.Type)
routing_of (Some word.Gprs) = Err (BadValue name.Type)
routing_of (Some word.SwitchOff) = Err (BadValue name.Type)

abbrev pub location_of : Option TypeWord → Result LocationUpdate BadLine
location_of None = Ok location.Normal
location_of (Some word.Normal) = Ok location.Normal
location_of (Some word.Periodic) = Ok location.Periodic
location_of (Some word.ImsiAttach) = Ok location.ImsiAttach
location_of (Some word.Gprs) = Err (BadValue name.Type)
location_of (Some word.SwitchOff) = Err (BadValue name.Type)

abbrev pub detach_of : Option TypeWord → Result DetachType BadLine
detach_of None = Ok detach.Gprs
detach_of (Some word.Normal) = Err (BadValue name.Type)
detach_of (Some word.Periodic) = Err (BadValue name.Type)
detach_of (Some word.ImsiAttach) = Err (BadValue name.Type)
detach_of (Some word.Gprs) = Ok detach.Gprs
detach_of (Some word.SwitchOff) = Ok detach.SwitchOff

abbrev pub message_of : Kind → Fields → Terminal → Result Uplink BadLine
message_of kind.Attach f t = onward (packet_of f) (λ s. Ok (uplink.AttachRequest t s))
message_of kind.Update f t = onward (routing_of f.word) (λ u. onward (packet_of f) (λ s. Ok (uplink.UpdateRequest u t s)))
message_of kind.Location f t = onward (location_of f.word) (λ u. onward (circuit_of f) (λ s. Ok (uplink.LocationRequest u t s)))
message_of kind.Detach f t = onward (detach_of f.word) (λ d. Ok (uplink.DetachRequest d))
message_of kind.Indication f t = onward (circuit_of f) (λ s. Ok (uplink.DetachIndication t s))
message_of kind.AttachComplete f t = Ok uplink.AttachComplete
message_of kind.UpdateComplete f t = Ok uplink.UpdateComplete
message_of kind.TmsiComplete f t = Ok uplink.TmsiComplete
