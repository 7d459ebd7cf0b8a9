-- PLMN, location area and routing area, and their octets.
use Rattle.std.specs.Prelude.{ℕ, ◌+◌, ◌*◌, ◌/◌, ◌%◌, cond, List, [], ◌∷◌, ◌++◌, Some, None, Option, ◌==◌, slice_index}
use Rattle.std.specs.Option.{option_map, unwrap_or}
use Rattle.vocabulary.specs.Made.{when, then}
use Rattle.vocabulary.specs.Marks.{lawful_plmn, lawful_lac}
use Rattle.vocabulary.specs.declared.values.Plmn.{Plmn}
use Rattle.vocabulary.specs.declared.values.Lai.{Lai}
use Rattle.vocabulary.specs.declared.values.Rai.{Rai}

-- the third digit of the network code, in the high half of the second octet: F where there is none
abbrev pub third_half : Option ℕ → ℕ
third_half digit = unwrap_or digit 15

abbrev pub third_of : ℕ → Option ℕ
third_of n = cond (n == 15) None (Some n)

-- MCC digits 2 and 1, MNC digit 3 and MCC digit 3, MNC digits 2 and 1; the first named in the high half
abbrev pub plmn_octets : Plmn → List ℕ
plmn_octets p =
    (p.mcc2 * 16 + p.mcc1) ∷ (third_half p.mnc3 * 16 + p.mcc3) ∷ (p.mnc2 * 16 + p.mnc1) ∷ []

-- the area code follows the network, high octet first; no area is FF FF FF FF FE
abbrev pub lai_octets : Option Lai → List ℕ
lai_octets None = 0xff ∷ 0xff ∷ 0xff ∷ 0xff ∷ 0xfe ∷ []
lai_octets (Some a) = plmn_octets a.plmn ++ (a.lac / 256 % 256) ∷ (a.lac % 256) ∷ []

-- the routing area code follows the location area; no area has one FF more
abbrev pub rai_octets : Option Rai → List ℕ
rai_octets None = lai_octets None ++ 0xff ∷ []
rai_octets (Some a) = lai_octets (Some a.lai) ++ a.rac ∷ []

-- a network of these digits, where they are lawful
unfoldable pub plmn_when : ℕ → ℕ → ℕ → ℕ → ℕ → Option ℕ → Option Plmn
plmn_when a b c d e f =
    when (lawful_plmn a b c d e f)
    (λ lawful. record { mcc1 = a; mcc2 = b; mcc3 = c; mnc1 = d; mnc2 = e; mnc3 = f; lawful = lawful })

-- a location area, where its code is not the mark
unfoldable pub lai_when : Plmn → ℕ → Option Lai
lai_when p n = when (lawful_lac n) (λ lawful. record { plmn = p; lac = n; lawful = lawful })

-- the network that three octets name
abbrev pub plmn_of : ℕ → ℕ → ℕ → Option Plmn
plmn_of a b c = plmn_when (a % 16) (a / 16) (b % 16) (c % 16) (c / 16) (third_of (b / 16))

-- the location area that five octets name
abbrev pub lai_of : ℕ → ℕ → ℕ → ℕ → ℕ → Option Lai
lai_of a b c d e = then (plmn_of a b c) (λ p. lai_when p (d * 256 + e))

-- the routing area that six octets name
abbrev pub rai_of : ℕ → ℕ → ℕ → ℕ → ℕ → ℕ → Option Rai
rai_of a b c d e f = option_map (λ area. record { lai = area; rac = f }) (lai_of a b c d e)

-- the place that the octets of a list name, as many as a place of its kind has
abbrev pub plmn_in : List ℕ → Option Plmn
plmn_in o = plmn_of (slice_index o 0) (slice_index o 1) (slice_index o 2)

abbrev pub lai_in : List ℕ → Option Lai
lai_in o = lai_of (slice_index o 0) (slice_index o 1) (slice_index o 2) (slice_index o 3) (slice_index o 4)

abbrev pub rai_in : List ℕ → Option Rai
rai_in o = rai_of (slice_index o 0) (slice_index o 1) (slice_index o 2) (slice_index o 3) (slice_index o 4) (slice_index o 5)
