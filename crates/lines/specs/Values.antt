-- The values that fields may have.
use Rattle.std.specs.Prelude.{ℕ, ◌-◌, cond, ◌&&◌, List, map, length, Some, None, Option, ◌==◌, nat_le, slice_index}
use Rattle.identities.specs.Identities.{tmsi_of, signature_of, key_when, imsi_from}
use Rattle.identities.specs.declared.values.Imsi.{Imsi}
use Rattle.identities.specs.declared.values.KeyNumber.{KeyNumber}
use Rattle.vocabulary.specs.declared.values.Lai.{Lai}
use Rattle.vocabulary.specs.declared.values.Rai.{Rai}
use Rattle.identities.specs.declared.values.Signature.{Signature}
use Rattle.identities.specs.declared.values.Tmsi.{Tmsi}
use Rattle.vocabulary.specs.Places as places
use Rattle.spelling.specs.Digits.{digit_value}

-- a value of exactly n octets
abbrev pub sized : {X : Type 0} → ℕ → List ℕ → Option X → Option X
sized n xs value = cond (length xs == n) value None

abbrev pub tmsi_in : List ℕ → Option Tmsi
tmsi_in xs = sized 4 xs (tmsi_of (slice_index xs 0) (slice_index xs 1) (slice_index xs 2) (slice_index xs 3))

abbrev pub signature_in : List ℕ → Option Signature
signature_in xs = sized 3 xs (signature_of (slice_index xs 0) (slice_index xs 1) (slice_index xs 2))

abbrev pub rai_in : List ℕ → Option Rai
rai_in xs = sized 6 xs (places.rai_in xs)

abbrev pub lai_in : List ℕ → Option Lai
lai_in xs = sized 5 xs (places.lai_in xs)

abbrev pub octet_in : List ℕ → Option ℕ
octet_in xs = sized 1 xs (Some (slice_index xs 0))

-- one digit, 0 to 7: the last is none
abbrev pub key_in : List ℕ → Option (Option KeyNumber)
key_in text = sized 1 text (cond (nat_le 48 (slice_index text 0) && nat_le (slice_index text 0) 55) (Some (key_when (slice_index text 0 - 48))) None)

abbrev pub imsi_in : List ℕ → Option Imsi
imsi_in text = imsi_from (map digit_value text)
