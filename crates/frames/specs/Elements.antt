-- The elements after the fixed octets, taken one after the other.
use Rattle.std.specs.Prelude.{ℕ, zero, suc, ◌+◌, cond, ◌||◌, List, [], ◌∷◌, length, is_some, Some, None, Ok, Err, Option, Result, nat_lt}
use Rattle.std.specs.Option.{option_or}
use Rattle.frames.specs.Tags.{layout_of, end, value_in, meaning}
use Rattle.frames.specs.Values.{tmsi_value, identity_value, signature_value, timer_value, plmns_value}
use Rattle.frames.specs.declared.downlink.PacketElements.{PacketElements}
use Rattle.frames.specs.declared.downlink.CircuitElements.{CircuitElements}
use Rattle.frames.specs.declared.faults.ElementFault.{ElementFault}
use Rattle.frames.specs.declared.faults.ElementFault.TheVariants.{Cut, BadValue, UnknownTag}
use Rattle.frames.specs.declared.found.Found.{Found}
use Rattle.frames.specs.declared.tags.Side.{Side}
use Rattle.frames.specs.declared.tags.Known.{Known}
use Rattle.frames.specs.declared.tags.Known.TheVariants.{PTmsiSignature, PTmsi, T3302, Identity, Equivalents, Skipped, BelowTen}

abbrev pub nothing : Found
nothing = record { signature = None; p_tmsi = None; t3302 = None; identity = None; equivalents = None; bad = None; low = None }

-- the first bad value keeps the blame; a second instance of a tag is not looked at
abbrev pub blame : {X : Type 0} → Option X → Option X → Option ℕ → ℕ → Option ℕ
blame old new bad at = cond (is_some old || is_some new) bad (option_or bad (Some at))

-- what is found once an element at an octet is looked at: only the first of a tag counts
abbrev pub noted : Known → Found → List ℕ → ℕ → Found
noted PTmsiSignature f v at = record {
  signature = option_or f.signature (signature_value v);
  p_tmsi = f.p_tmsi;
  t3302 = f.t3302;
  identity = f.identity;
  equivalents = f.equivalents;
  bad = blame f.signature (signature_value v) f.bad at;
  low = f.low;
}
noted PTmsi f v at = record {
  signature = f.signature;
  p_tmsi = option_or f.p_tmsi (tmsi_value v);
  t3302 = f.t3302;
  identity = f.identity;
  equivalents = f.equivalents;
  bad = blame f.p_tmsi (tmsi_value v) f.bad at;
  low = f.low;
}
noted T3302 f v at = record {
  signature = f.signature;
  p_tmsi = f.p_tmsi;
  t3302 = option_or f.t3302 (timer_value v);
  identity = f.identity;
  equivalents = f.equivalents;
  bad = blame f.t3302 (timer_value v) f.bad at;
  low = f.low;
}
noted Identity f v at = record {
  signature = f.signature;
  p_tmsi = f.p_tmsi;
  t3302 = f.t3302;
  identity = option_or f.identity (identity_value v);
  equivalents = f.equivalents;
  bad = blame f.identity (identity_value v) f.bad at;
  low = f.low;
}
noted Equivalents f v at = record {
  signature = f.signature;
  p_tmsi = f.p_tmsi;
  t3302 = f.t3302;
  identity = f.identity;
  equivalents = option_or f.equivalents (plmns_value v);
  bad = blame f.equivalents (plmns_value v) f.bad at;
  low = f.low;
}
noted Skipped f v at = f
noted BelowTen f v at = record {
  signature = f.signature;
  p_tmsi = f.p_tmsi;
  t3302 = f.t3302;
  identity = f.identity;
  equivalents = f.equivalents;
  bad = f.bad;
  low = option_or f.low (Some at);
}

-- the walk over the elements, from the octet `at` on: `skip` octets still belong to the element before.
-- An element that ends past the frame is cut short, and the octet after the frame is the one that is missing.
unfoldable pub walk : Side → Found → ℕ → List ℕ → ℕ → Result Found ElementFault
walk side f at [] skip = Ok f
walk side f at (tag ∷ after) zero =
    cond (nat_lt (length after) (end (layout_of side tag) after)) (Err (Cut (at + length after + 1)))
    (walk side (noted (meaning side tag) f (value_in (layout_of side tag) after) at) (at + 1) after (end (layout_of side tag) after))
walk side f at (octet ∷ after) (suc skip) = walk side f (at + 1) after skip

-- a bad value comes before an unknown tag
abbrev pub judged : {X : Type 0} → Option ℕ → Option ℕ → X → Result X ElementFault
judged (Some at) low x = Err (BadValue at)
judged None (Some at) x = Err (UnknownTag at)
judged None None x = Ok x

-- the elements of the packet side, as they were found
abbrev pub packet_found : Found → PacketElements
packet_found f = record { signature = f.signature; p_tmsi = f.p_tmsi; t3302 = f.t3302; equivalents = f.equivalents }

abbrev pub packet_elements : Found → Result PacketElements ElementFault
packet_elements f = judged f.bad f.low (packet_found f)

-- the elements of the circuit side, as they were found
abbrev pub circuit_found : Found → CircuitElements
circuit_found f = record { identity = f.identity; equivalents = f.equivalents }

abbrev pub circuit_elements : Found → Result CircuitElements ElementFault
circuit_elements f = judged f.bad f.low (circuit_found f)
