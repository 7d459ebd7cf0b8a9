-- What the value of each element means, where it means anything.
use Rattle.std.specs.Prelude.{ℕ, ◌+◌, ◌*◌, ◌%◌, Bool, cond, ◌&&◌, List, [], ◌∷◌, length, Some, None, Option, ◌==◌, nat_lt, slice_index}
use Rattle.std.specs.Option.{option_map}
use Rattle.vocabulary.specs.Made.{then}
use Rattle.vocabulary.specs.Places.{plmn_of}
use Rattle.identities.specs.Identities.{tmsi_of, signature_of, imsi_of}
use Rattle.vocabulary.specs.Timers.{gprs_seconds}
use Rattle.vocabulary.specs.declared.values.Plmn.{Plmn}
use Rattle.identities.specs.declared.values.Tmsi.{Tmsi}
use Rattle.identities.specs.declared.values.Signature.{Signature}
use Rattle.frames.specs.declared.downlink.MobileIdentity.{MobileIdentity}
use Rattle.frames.specs.declared.downlink.MobileIdentity.TheVariants as identity
use Rattle.frames.specs.declared.downlink.PlmnList.{PlmnList}

-- a TMSI or P-TMSI: F4 and four octets
abbrev pub coded_tmsi : List ℕ → Bool
coded_tmsi v = length v == 5 && slice_index v 0 == 0xf4

abbrev pub tmsi_value : List ℕ → Option Tmsi
tmsi_value v = cond (coded_tmsi v) (tmsi_of (slice_index v 1) (slice_index v 2) (slice_index v 3) (slice_index v 4)) None

-- a mobile identity: a TMSI, or an IMSI of whatever subscriber
abbrev pub identity_value : List ℕ → Option MobileIdentity
identity_value v = cond (coded_tmsi v) (option_map identity.Tmsi (tmsi_value v)) (option_map identity.Imsi (imsi_of v))

abbrev pub signature_value : List ℕ → Option Signature
signature_value v = cond (length v == 3) (signature_of (slice_index v 0) (slice_index v 1) (slice_index v 2)) None

-- one timer octet
abbrev pub timer_value : List ℕ → Option ℕ
timer_value v = cond (length v == 1) (Some (gprs_seconds (slice_index v 0))) None

-- the network at place k of a list; no entry past its end
abbrev pub entry : List ℕ → ℕ → Option (Option Plmn)
entry v k = cond (nat_lt (3 * k) (length v)) (option_map Some (plmn_of (slice_index v (3 * k)) (slice_index v (3 * k + 1)) (slice_index v (3 * k + 2)))) (Some None)

-- one to five networks of three octets each
abbrev pub plmns_value : List ℕ → Option PlmnList
plmns_value v =
    cond (nat_lt 0 (length v) && (nat_lt (length v) 16 && length v % 3 == 0))
    (then (entry v 0) (λ a. then (entry v 1) (λ b. then (entry v 2) (λ c. then (entry v 3) (λ d. then (entry v 4) (λ e. Some (record { entries = a ∷ b ∷ c ∷ d ∷ e ∷ [] })))))))
    None
