-- What is written of an identity reads back.
use Rattle.std.proofs.Common.{◌≡◌, ℕ, zero, suc, ◌+◌, ◌-◌, ◌*◌, ◌/◌, ◌%◌, ◌<◌, ◌≤◌, cond, eqb, List, [], ◌∷◌, length, get_or, take, drop, Some, None, sym, refl, ap, ◌∙◌, inl, inr, arith}
use native.Mathlib.Nat.{div-div-eq-div-mul}
use Rattle.std.proofs.lemmas.Nat.{div-mul-add, mod-mul-add}
use Rattle.std.proofs.lemmas.List.{get_or-take, get_or_past, length-take, length-take-le, drop_all, drop_more}
use Rattle.std.proofs.lemmas.Bool.{cases_lt, cond_below}
use Rattle.std.proofs.lemmas.Bool.Decides.{nat_tests}
use Rattle.identities.specs.Identities.{tmsi_when, tmsi_of, signature_when, signature_of, imsi_when, imsi_of, imsi_type, pair, places_of, digits_in}
use Rattle.identities.specs.declared.values.Imsi.{Imsi}
use Rattle.identities.specs.declared.values.Tmsi.{Tmsi}
use Rattle.identities.specs.declared.values.Signature.{Signature}
use Rattle.identities.proofs.Makes.{imsi_made, tmsi_made, signature_made}
use Rattle.identities.proofs.Halves.{half_small, filler_at, fifteen_places, len_most}

-- a number of 24 or 32 bits is what its octets make
twenty_four_bits : (n : ℕ) → n / 65536 * 65536 + n / 256 % 256 * 256 + n % 256 ≡ n
twenty_four_bits n = omega (arith, div-div-eq-div-mul n 256 256)

thirty_two_bits : (n : ℕ) → n < 4294967296 → n / 16777216 % 256 * 16777216 + n / 65536 % 256 * 65536 + n / 256 % 256 * 256 + n % 256 ≡ n
thirty_two_bits n h =
    let high : n / 16777216 % 256 * 16777216 + n / 65536 % 256 * 65536 ≡ n / 65536 * 65536 =
    omega (arith, div-div-eq-div-mul n 65536 256) in
    omega (arith, twenty_four_bits n)

pub tmsi_back : (t : Tmsi) → tmsi_of (t.bits / 16777216 % 256) (t.bits / 65536 % 256) (t.bits / 256 % 256) (t.bits % 256) ≡ Some t
tmsi_back t = ap tmsi_when (thirty_two_bits t.bits (let h = t.lawful in grind (arith, nat_tests))) ∙ sym (tmsi_made t)

pub signature_high : (s : Signature) → s.bits / 65536 % 256 ≡ s.bits / 65536
signature_high s = let h = s.lawful in grind (arith, nat_tests)

pub signature_back : (s : Signature) → signature_of (s.bits / 65536) (s.bits / 256 % 256) (s.bits % 256) ≡ Some s
signature_back s = ap signature_when (twenty_four_bits s.bits) ∙ sym (signature_made s)

-- two places to an octet, n octets from place k on
abbrev pairs : ℕ → List ℕ → ℕ → List ℕ
pairs zero ds k = []
pairs (suc n) ds k = pair ds k ∷ pairs n ds (k + 2)

-- the octets of an IMSI after the length
abbrev coded : List ℕ → ℕ → List ℕ
coded ds n = (get_or ds 0 0 * 16 + imsi_type n) ∷ pairs 7 ds 1

-- past the digits both places of an octet hold the filler
pair_filler : (i : Imsi) (k : ℕ) → k < 14 → i.len ≤ k → pair i.digits k ≡ 255
pair_filler i k small past = omega (arith, filler_at i k (omega arith) past, filler_at i (k + 1) (omega arith) (omega arith))

pairs_filler : (i : Imsi) (n k at : ℕ) → k + 2 * n ≤ 15 → i.len ≤ k + 2 * at → get_or (pairs n i.digits k) at 255 ≡ 255
pairs_filler i zero k at small past = refl
pairs_filler i (suc n) k zero small past = pair_filler i k (omega arith) (omega arith)
pairs_filler i (suc n) k (suc at) small past = pairs_filler i n (k + 2) at (omega arith) (omega arith)

coded_filler : (i : Imsi) (at : ℕ) → i.len / 2 + 1 ≤ at → get_or (coded i.digits i.len) at 255 ≡ 255
coded_filler i zero past = omega arith
coded_filler i (suc at) past = pairs_filler i 7 1 at (omega arith) (omega arith)

-- a list reads the same where no more is cut off than its default
cut : (m k d : ℕ) (xs : List ℕ) → (m ≤ k → get_or xs k d ≡ d) → get_or (take m xs) k d ≡ get_or xs k d
cut m k d xs h =
    elim (cases_lt k m) [
      | inl l ↦ get_or-take m xs k d l
      | inr g ↦ get_or_past (take m xs) k d (simp length-take (omega arith)) ∙ sym (h g)
    ]

same_places : (v w : List ℕ) → ((k : ℕ) → get_or v k 255 ≡ get_or w k 255) → places_of v ≡ places_of w
same_places v w h = λ j.
    (h 0 j / 16) ∷ (h 1 j % 16) ∷ (h 1 j / 16) ∷ (h 2 j % 16) ∷ (h 2 j / 16) ∷ (h 3 j % 16) ∷ (h 3 j / 16)
    ∷ (h 4 j % 16) ∷ (h 4 j / 16) ∷ (h 5 j % 16) ∷ (h 5 j / 16) ∷ (h 6 j % 16) ∷ (h 6 j / 16) ∷ (h 7 j % 16) ∷ (h 7 j / 16) ∷ []

-- the n places from place k on
abbrev places : ℕ → ℕ → List ℕ → List ℕ
places zero k ds = []
places (suc n) k ds = get_or ds k 0 ∷ places n (k + 1) ds

all_places : (n k : ℕ) (ds : List ℕ) → length ds ≡ k + n → places n k ds ≡ drop k ds
all_places zero k ds h = sym (drop_all k ds (omega arith))
all_places (suc n) k ds h = ap (λ rest. get_or ds k 0 ∷ rest) (all_places n (k + 1) ds (omega arith)) ∙ sym (drop_more ds k 0 (omega arith))

low : (i : Imsi) (k : ℕ) → pair i.digits k % 16 ≡ get_or i.digits k 0
low i k = mod-mul-add (get_or i.digits (k + 1) 0) 16 (get_or i.digits k 0) (half_small i k)

high : (i : Imsi) (k : ℕ) → pair i.digits k / 16 ≡ get_or i.digits (k + 1) 0
high i k = div-mul-add (get_or i.digits (k + 1) 0) 16 (get_or i.digits k 0) (half_small i k)

type_small : (n : ℕ) → imsi_type n < 16
type_small n = grind (arith, nat_tests)

places_back : (i : Imsi) → places_of (coded i.digits i.len) ≡ i.digits
places_back i =
    (λ j. div-mul-add (get_or i.digits 0 0) 16 (imsi_type i.len) (type_small i.len) j
    ∷ low i 1 j ∷ high i 1 j ∷ low i 3 j ∷ high i 3 j ∷ low i 5 j ∷ high i 5 j ∷ low i 7 j ∷ high i 7 j
    ∷ low i 9 j ∷ high i 9 j ∷ low i 11 j ∷ high i 11 j ∷ low i 13 j ∷ high i 13 j ∷ [])
    ∙ all_places 15 0 i.digits (fifteen_places i)

number_back : (n : ℕ)
    → cond (eqb (imsi_type n) 9) (2 * (n / 2 + 1) - 1) (cond (eqb (imsi_type n) 1) (2 * (n / 2 + 1) - 2) 0) ≡ n
number_back n = grind (arith, nat_tests)

pub imsi_back : (i : Imsi) → imsi_of (take (i.len / 2 + 1) (coded i.digits i.len)) ≡ Some i
imsi_back i =
    let octets = coded i.digits i.len in
    let v = take (i.len / 2 + 1) octets in
    let same : (k : ℕ) → get_or v k 255 ≡ get_or octets k 255 = λ k. cut (i.len / 2 + 1) k 255 octets (coded_filler i k) in
    let long : length v ≡ i.len / 2 + 1 = length-take-le (i.len / 2 + 1) octets (omega (arith, len_most i)) in
    let type : get_or v 0 255 % 16 ≡ imsi_type i.len =
    ap (λ x. x % 16) (same 0) ∙ mod-mul-add (get_or i.digits 0 0) 16 (imsi_type i.len) (type_small i.len) in
    let number : digits_in v ≡ i.len =
    (λ j. cond (eqb (type j) 9) (2 * long j - 1) (cond (eqb (type j) 1) (2 * long j - 2) 0)) ∙ number_back i.len in
    let whole : places_of v ≡ i.digits = same_places v octets same ∙ places_back i in
    sym (cond_below (length v) 9 (imsi_when (places_of v) (digits_in v)) None (omega (arith, len_most i)))
    ∙ (λ j. imsi_when (whole j) (number j))
    ∙ sym (imsi_made i)
