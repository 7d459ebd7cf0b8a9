-- Subscriber identities and keys, and their octets.
use Rattle.std.specs.Prelude.{ℕ, ◌+◌, ◌-◌, ◌*◌, ◌/◌, ◌%◌, cond, List, [], ◌∷◌, ◌++◌, length, drop, replicate, Some, None, Option, ◌==◌, nat_lt, slice_index, slice_index_or}
use Rattle.vocabulary.specs.Made.{when}
use Rattle.identities.specs.Marks.{lawful_imsi, lawful_tmsi, lawful_signature, lawful_key}
use Rattle.identities.specs.declared.values.Imsi.{Imsi}
use Rattle.identities.specs.declared.values.Tmsi.{Tmsi}
use Rattle.identities.specs.declared.values.Signature.{Signature}
use Rattle.identities.specs.declared.values.KeyNumber.{KeyNumber}

-- the octets of 32 bits, and of 24, the highest first
abbrev pub four_octets : ℕ → List ℕ
four_octets n = (n / 16777216 % 256) ∷ (n / 65536 % 256) ∷ (n / 256 % 256) ∷ (n % 256) ∷ []

abbrev pub three_octets : ℕ → List ℕ
three_octets n = (n / 65536) ∷ (n / 256 % 256) ∷ (n % 256) ∷ []

-- a temporary identity of 32 bits, where they are not the mark
unfoldable pub tmsi_when : ℕ → Option Tmsi
tmsi_when n = when (lawful_tmsi n) (λ lawful. record { bits = n; lawful = lawful })

-- the temporary identity that four octets name, the highest first
abbrev pub tmsi_of : ℕ → ℕ → ℕ → ℕ → Option Tmsi
tmsi_of a b c d = tmsi_when (a * 16777216 + b * 65536 + c * 256 + d)

-- the temporary identity that the octets of a list name
abbrev pub tmsi_in : List ℕ → Option Tmsi
tmsi_in o = tmsi_of (slice_index o 0) (slice_index o 1) (slice_index o 2) (slice_index o 3)

abbrev pub tmsi_octets : Tmsi → List ℕ
tmsi_octets t = four_octets t.bits

-- a signature of 24 bits, where they are not the mark
unfoldable pub signature_when : ℕ → Option Signature
signature_when n = when (lawful_signature n) (λ lawful. record { bits = n; lawful = lawful })

-- the signature that three octets name, the highest first
abbrev pub signature_of : ℕ → ℕ → ℕ → Option Signature
signature_of a b c = signature_when (a * 65536 + b * 256 + c)

-- the signature that the octets of a list name
abbrev pub signature_in : List ℕ → Option Signature
signature_in o = signature_of (slice_index o 0) (slice_index o 1) (slice_index o 2)

abbrev pub signature_octets : Signature → List ℕ
signature_octets s = three_octets s.bits

-- a key number, where it is not the mark
abbrev pub key_when : ℕ → Option KeyNumber
key_when n = when (lawful_key n) (λ lawful. record { number = n; lawful = lawful })

-- the number that a key, or none, is written by
abbrev pub key_written : Option KeyNumber → ℕ
key_written None = 7
key_written (Some k) = k.number

-- an IMSI of n digits in fifteen places, where it is lawful
unfoldable pub imsi_when : List ℕ → ℕ → Option Imsi
imsi_when ds n = when (lawful_imsi ds n) (λ lawful. record { digits = ds; len = n; lawful = lawful })

-- the IMSI of a list of digits: the filler stands in the other places
abbrev pub imsi_from : List ℕ → Option Imsi
imsi_from ds = cond (nat_lt (length ds) 16) (imsi_when (ds ++ drop (length ds) (replicate 15 15)) (length ds)) None

-- the low half of an IMSI's first octet: the type of identity 1, and 8 more where the digits are odd in number
abbrev pub imsi_type : ℕ → ℕ
imsi_type n = cond (n % 2 == 1) 9 1

-- two digits in one octet, the first in the low half
abbrev pub pair : List ℕ → ℕ → ℕ
pair ds k = slice_index ds (k + 1) * 16 + slice_index ds k

-- an IMSI as a mobile identity: the length, then the first digit and the type, then two digits to an octet.
-- The filler makes the octets past the length FF, nine octets in all.
abbrev pub imsi_octets : Imsi → List ℕ
imsi_octets i =
    (i.len / 2 + 1) ∷ (slice_index i.digits 0 * 16 + imsi_type i.len) ∷ pair i.digits 1 ∷ pair i.digits 3
    ∷ pair i.digits 5 ∷ pair i.digits 7 ∷ pair i.digits 9 ∷ pair i.digits 11 ∷ pair i.digits 13 ∷ []

-- the fifteen places that the octets after the length give; an octet that is not there counts as FF
abbrev pub places_of : List ℕ → List ℕ
places_of v =
    (slice_index_or v 0 255 / 16) ∷ (slice_index_or v 1 255 % 16) ∷ (slice_index_or v 1 255 / 16) ∷ (slice_index_or v 2 255 % 16) ∷ (slice_index_or v 2 255 / 16)
    ∷ (slice_index_or v 3 255 % 16) ∷ (slice_index_or v 3 255 / 16) ∷ (slice_index_or v 4 255 % 16) ∷ (slice_index_or v 4 255 / 16) ∷ (slice_index_or v 5 255 % 16)
    ∷ (slice_index_or v 5 255 / 16) ∷ (slice_index_or v 6 255 % 16) ∷ (slice_index_or v 6 255 / 16) ∷ (slice_index_or v 7 255 % 16) ∷ (slice_index_or v 7 255 / 16) ∷ []

-- the number of digits in a coded IMSI, by its length and type; 0, which no IMSI has, where the type is another
abbrev pub digits_in : List ℕ → ℕ
digits_in v =
    cond (slice_index_or v 0 255 % 16 == 9) (2 * length v - 1) (cond (slice_index_or v 0 255 % 16 == 1) (2 * length v - 2) 0)

-- the IMSI that the octets after the length code
abbrev pub imsi_of : List ℕ → Option Imsi
imsi_of v = cond (nat_lt (length v) 9) (imsi_when (places_of v) (digits_in v)) None
