-- Each part of an image reads back.
use Rattle.std.proofs.Common.{◌≡◌, ℕ, zero, suc, ◌+◌, ◌*◌, ◌/◌, ◌%◌, ◌≤◌, true, List, [], ◌∷◌, ◌++◌, length, get_or, nat_lt, Some, None, Option, sym, refl, ap, ◌∙◌, subst, append_assoc, append-nil, arith}
use Rattle.std.specs.Option.{option_map}
use Rattle.std.proofs.lemmas.List.{length-append}
use Rattle.std.proofs.lemmas.Bool.{ltb-true, lt-ltb}
use Rattle.vocabulary.specs.Made.{then}
use Rattle.vocabulary.specs.Marks.{lawful_lac}
use Rattle.vocabulary.specs.Places.{plmn_when, lai_when, plmn_of, lai_of, rai_of, lai_octets, rai_octets}
use Rattle.vocabulary.specs.Same.{same_plmn}
use Rattle.vocabulary.specs.declared.values.Plmn.{Plmn}
use Rattle.vocabulary.specs.declared.values.Lai.{Lai}
use Rattle.vocabulary.specs.declared.values.Rai.{Rai}
use Rattle.vocabulary.proofs.Back.{plmn_back, lai_back, no_lai_back}
use Rattle.vocabulary.specs.Told.{plmn_told}
use Rattle.vocabulary.proofs.Inversions.{when_some, mapped_some}
use Rattle.identities.specs.Identities.{tmsi_when, tmsi_of, signature_when, signature_of, key_when, key_written}
use Rattle.identities.specs.declared.values.KeyNumber.{KeyNumber}
use Rattle.identities.specs.declared.values.Signature.{Signature}
use Rattle.identities.specs.declared.values.Tmsi.{Tmsi}
use Rattle.identities.proofs.Back.{tmsi_back, signature_back}
use Rattle.identities.proofs.Makes.{key_made}
use Rattle.lists.specs.Lists.{distinct, added}
use Rattle.lists.proofs.Fresh.{fresh, added_last}
use Rattle.card.specs.declared.values.Status.{Status}
use Rattle.card.specs.declared.values.Status.TheVariants.{Updated, NotUpdated, NotAllowed}
use Rattle.card_image.specs.Layout.{status_written, identity_bits, signature_bits, place_octets}
use Rattle.card_image.specs.Meaning.{status_at, added_some, area_fits}

pub identity_again : (t : Option Tmsi)
    → tmsi_of (identity_bits t / 16777216 % 256) (identity_bits t / 65536 % 256) (identity_bits t / 256 % 256) (identity_bits t % 256) ≡ t
unfolding tmsi_when
identity_again None = refl
identity_again (Some t) = tmsi_back t

pub signature_again : (s : Option Signature)
    → signature_of (signature_bits s / 65536) (signature_bits s / 256 % 256) (signature_bits s % 256) ≡ s
unfolding signature_when
signature_again None = refl
signature_again (Some s) = signature_back s

-- what the octets of an area read as
abbrev pub lai_read : Option Lai → Option Lai
lai_read a =
    lai_of (get_or (lai_octets a) 0 0) (get_or (lai_octets a) 1 0) (get_or (lai_octets a) 2 0) (get_or (lai_octets a) 3 0) (get_or (lai_octets a) 4 0)

abbrev pub rai_read : Option Rai → Option Rai
rai_read a =
    rai_of (get_or (rai_octets a) 0 0) (get_or (rai_octets a) 1 0) (get_or (rai_octets a) 2 0) (get_or (rai_octets a) 3 0) (get_or (rai_octets a) 4 0) (get_or (rai_octets a) 5 0)

pub lai_again : (a : Option Lai) → area_fits a ≡ true → lai_read a ≡ a
lai_again None fits = no_lai_back
lai_again (Some a) fits = lai_back a (ltb-true a.lac 65536 fits)

pub rai_again : (a : Option Rai) → area_fits (option_map (λ r. r.lai) a) ≡ true → rai_read a ≡ a
rai_again None fits = ap (option_map (λ area. record { lai = area; rac = 0xff })) no_lai_back
rai_again (Some a) fits = ap (option_map (λ area. record { lai = area; rac = a.rac })) (lai_back a.lai (ltb-true a.lai.lac 65536 fits))

-- the code that an area is read with has two octets
code_fits : (p : Plmn) (a : Lai) → lai_when p (a.lac / 256 % 256 * 256 + a.lac % 256) ≡ Some a → nat_lt a.lac 65536 ≡ true
unfolding lai_when
code_fits p a e =
    let same = (when_some (lawful_lac (a.lac / 256 % 256 * 256 + a.lac % 256)) (λ lawful. record { plmn = p; lac = a.lac / 256 % 256 * 256 + a.lac % 256; lawful = lawful }) a e).1 in
    let code : a.lac / 256 % 256 * 256 + a.lac % 256 ≡ a.lac = ap (λ x. x.lac) same in
    lt-ltb a.lac 65536 (omega (arith, code))

pub fits_from_lai : (a : Option Lai) → lai_read a ≡ a → area_fits a ≡ true
fits_from_lai None e = refl
fits_from_lai (Some a) e =
    code_fits a.plmn a (sym (ap (λ p. then p (λ q. lai_when q (a.lac / 256 % 256 * 256 + a.lac % 256))) (plmn_back a.plmn)) ∙ e)

pub fits_from_rai : (a : Option Rai) → rai_read a ≡ a → area_fits (option_map (λ r. r.lai) a) ≡ true
fits_from_rai None e = refl
fits_from_rai (Some a) e =
    let found = mapped_some (λ (area : Lai). record { lai = area; rac = a.rac }) (lai_read (Some a.lai)) a e in
    fits_from_lai (Some a.lai) (found.1 ∙ ap (λ r. Some r.lai) found.2)

pub status_again : (s : Status) → status_at (status_written s ∷ []) 0 ≡ Some s
status_again Updated = refl
status_again NotUpdated = refl
status_again NotAllowed = refl

pub key_again : (k : Option KeyNumber) → key_when (key_written k) ≡ k
key_again None = refl
key_again (Some k) = sym (key_made k)

-- the entry at a place
abbrev entry_at : List Plmn → ℕ → Option Plmn
entry_at [] n = None
entry_at (p ∷ ps) zero = Some p
entry_at (p ∷ ps) (suc n) = entry_at ps n

abbrev pub plmn_in : List ℕ → Option Plmn
plmn_in o = plmn_of (get_or o 0 0) (get_or o 1 0) (get_or o 2 0)

place_again : (ps : List Plmn) (n : ℕ) → plmn_in (place_octets ps n) ≡ entry_at ps n
unfolding plmn_when
place_again [] n = refl
place_again (p ∷ ps) zero = plmn_back p
place_again (p ∷ ps) (suc n) = place_again ps n

-- entries that are added one after the other
abbrev all_added : List Plmn → List Plmn → List Plmn
all_added front [] = front
all_added front (p ∷ ps) = all_added (added same_plmn 4 front p) ps

all_added_last : (front ps : List Plmn) → length (front ++ ps) ≤ 4 → distinct same_plmn (front ++ ps) ≡ true → all_added front ps ≡ front ++ ps
all_added_last front [] few once = sym (append-nil front)
all_added_last front (p ∷ ps) few once =
    let whole : (front ++ p ∷ []) ++ ps ≡ front ++ p ∷ ps = append_assoc front (p ∷ []) ps in
    let new = fresh same_plmn plmn_told front ps p once in
    ap (λ f. all_added f ps) (added_last same_plmn plmn_told 4 front p new (omega (arith, length-append front (p ∷ ps))))
    ∙ all_added_last (front ++ p ∷ []) ps (subst (λ l. length l ≤ 4) (sym whole) few) (subst (λ l. distinct same_plmn l ≡ true) (sym whole) once)
    ∙ whole

abbrev pub four_added : Option Plmn → Option Plmn → Option Plmn → Option Plmn → List Plmn
four_added a b c d = added_some (added_some (added_some (added_some [] a) b) c) d

one_by_one : (ps : List Plmn) → length ps ≤ 4 → four_added (entry_at ps 0) (entry_at ps 1) (entry_at ps 2) (entry_at ps 3) ≡ all_added [] ps
one_by_one [] few = refl
one_by_one (p ∷ []) few = refl
one_by_one (p ∷ q ∷ []) few = refl
one_by_one (p ∷ q ∷ r ∷ []) few = refl
one_by_one (p ∷ q ∷ r ∷ s ∷ []) few = refl
one_by_one (p ∷ q ∷ r ∷ s ∷ t ∷ ps) few = absurd (omega arith)

pub forbidden_again : (ps : List Plmn) → length ps ≤ 4 → distinct same_plmn ps ≡ true
    → four_added (plmn_in (place_octets ps 0)) (plmn_in (place_octets ps 1)) (plmn_in (place_octets ps 2)) (plmn_in (place_octets ps 3)) ≡ ps
forbidden_again ps few once =
    (λ k. four_added (place_again ps 0 k) (place_again ps 1 k) (place_again ps 2 k) (place_again ps 3 k))
    ∙ one_by_one ps few ∙ all_added_last [] ps few once
