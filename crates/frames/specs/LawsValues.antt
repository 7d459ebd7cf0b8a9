-- The octets that each value of an element is coded by.
use Rattle.std.specs.Prelude.{◌≡◌, ℕ, ◌+◌, ◌-◌, ◌/◌, ◌≤◌, List, [], ◌∷◌, ◌++◌, map, length, take, drop, replicate, Some, None}
use Rattle.std.specs.List.{flat_map}
use Rattle.identities.specs.Identities.{tmsi_octets, signature_octets, imsi_octets}
use Rattle.vocabulary.specs.Places.{plmn_octets}
use Rattle.vocabulary.specs.Timers.{gprs_seconds}
use Rattle.vocabulary.specs.declared.values.Plmn.{Plmn}
use Rattle.identities.specs.declared.values.Signature.{Signature}
use Rattle.identities.specs.declared.values.Tmsi.{Tmsi}
use Rattle.frames.specs.declared.downlink.MobileIdentity.{MobileIdentity}
use Rattle.frames.specs.declared.downlink.MobileIdentity.TheVariants as identity
use Rattle.frames.specs.declared.downlink.PlmnList.{PlmnList}

-- a TMSI or P-TMSI: F4 and four octets
abbrev pub CodesTmsi : List ℕ → Tmsi → Type 0
CodesTmsi value t = value ≡ 0xf4 ∷ tmsi_octets t

-- a mobile identity: a TMSI, or an IMSI without the octets past its digits
abbrev pub CodesIdentity : List ℕ → MobileIdentity → Type 0
CodesIdentity value (identity.Tmsi t) = CodesTmsi value t
CodesIdentity value (identity.Imsi i) = value ≡ take (i.len / 2 + 1) (drop 1 (imsi_octets i))

-- a P-TMSI signature: three octets
abbrev pub CodesSignature : List ℕ → Signature → Type 0
CodesSignature value s = value ≡ signature_octets s

-- a GPRS timer, in seconds: one octet
abbrev pub CodesTimer : List ℕ → ℕ → Type 0
CodesTimer value seconds = (octet : ℕ) × (value ≡ octet ∷ []) × (seconds ≡ gprs_seconds octet)

-- one to five networks in their order, three octets each; the places after them are empty
pub record CodesPlmns (value : List ℕ) (l : PlmnList) : Type 0 where
  pub networks : List Plmn
  pub count : (1 ≤ length networks) × (length networks ≤ 5)
  pub octets : value ≡ flat_map plmn_octets networks
  pub places : l.entries ≡ map Some networks ++ replicate (5 - length networks) None
