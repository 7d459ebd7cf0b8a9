-- Every message has room in an area of 64 octets.
use Rattle.std.proofs.Common.{◌≡◌, ◌≤◌, length, Some, None, Option, refl, arith, lit≤, length-append, length-take}
use Rattle.vocabulary.specs.Places.{lai_octets, rai_octets}
use Rattle.identities.specs.declared.values.Imsi.{Imsi}
use Rattle.vocabulary.specs.declared.values.Lai.{Lai}
use Rattle.vocabulary.specs.declared.values.Rai.{Rai}
use Rattle.identities.specs.declared.values.Signature.{Signature}
use Rattle.identities.specs.declared.values.Tmsi.{Tmsi}
use Rattle.frames.specs.Octets.{octets_of, identity_octets, sent_p_tmsi, signature_element, attach_signature}
use Rattle.frames.specs.declared.terminal.Terminal.{Terminal}
use Rattle.frames.specs.declared.uplink.Uplink.{Uplink}
use Rattle.frames.specs.declared.uplink.Uplink.TheVariants.{AttachRequest, AttachComplete, DetachRequest, UpdateRequest, UpdateComplete, DetachIndication, LocationRequest, TmsiComplete}

sizes : (t : Terminal) → (length t.capability ≡ 2) × (length t.drx ≡ 2) × (length t.radio ≡ 12)
sizes t = (grind (arith, t.sized), grind (arith, t.sized), grind (arith, t.sized))

identity : (t : Option Tmsi) (i : Imsi) → length (identity_octets t i) ≤ 9
identity (Some t) i = lit≤ tt
identity None i = rw length-take (omega arith)

lai : (a : Option Lai) → length (lai_octets a) ≡ 5
lai None = refl
lai (Some a) = refl

rai : (a : Option Rai) → length (rai_octets a) ≡ 6
rai None = refl
rai (Some a) = refl

signature : (s : Option Signature) → length (signature_element s) ≤ 4
signature None = lit≤ tt
signature (Some s) = lit≤ tt

pub room : (m : Uplink) → length (octets_of m) ≤ 64
room (AttachRequest t s) =
    simp length-append
    (omega (arith, (sizes t).0, (sizes t).1, (sizes t).2, identity (sent_p_tmsi s) s.imsi, rai s.rai, signature (attach_signature (sent_p_tmsi s) s.signature)))
room AttachComplete = lit≤ tt
room (DetachRequest d) = lit≤ tt
room (UpdateRequest u t s) = simp length-append (omega (arith, (sizes t).2, rai s.rai, signature s.signature))
room UpdateComplete = lit≤ tt
room (DetachIndication t s) = simp length-append (omega (arith, identity s.tmsi s.imsi))
room (LocationRequest u t s) = simp length-append (omega (arith, lai s.lai, identity s.tmsi s.imsi))
room TmsiComplete = lit≤ tt
