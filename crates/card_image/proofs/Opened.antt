-- The parts of an image whose length does not show, octet by octet.
use Rattle.std.proofs.Common.{◌≡◌, ℕ, zero, suc, ◌<◌, ◌≤◌, List, [], ◌∷◌, ◌++◌, length, get_or, Some, None, Option, sym, refl, ap, ◌∙◌, append-nil, arith}
use Rattle.vocabulary.specs.Places.{plmn_octets, lai_octets, rai_octets}
use Rattle.vocabulary.specs.declared.values.Plmn.{Plmn}
use Rattle.vocabulary.specs.declared.values.Lai.{Lai}
use Rattle.vocabulary.specs.declared.values.Rai.{Rai}
use Rattle.identities.specs.Identities.{four_octets, three_octets}
use Rattle.card.specs.declared.values.PacketRecord.{PacketRecord}
use Rattle.card.specs.declared.values.Record.{Record}
use Rattle.card_image.specs.Layout.{status_written, identity_bits, signature_bits, packet_octets, circuit_octets, place_octets, forbidden_octets}

pub lai_opened : (a : Option Lai) (rest : List ℕ)
    → lai_octets a ++ rest ≡ get_or (lai_octets a) 0 0 ∷ get_or (lai_octets a) 1 0 ∷ get_or (lai_octets a) 2 0 ∷ get_or (lai_octets a) 3 0 ∷ get_or (lai_octets a) 4 0 ∷ rest
lai_opened None rest = refl
lai_opened (Some a) rest = refl

pub rai_opened : (a : Option Rai) (rest : List ℕ)
    → rai_octets a ++ rest ≡ get_or (rai_octets a) 0 0 ∷ get_or (rai_octets a) 1 0 ∷ get_or (rai_octets a) 2 0 ∷ get_or (rai_octets a) 3 0 ∷ get_or (rai_octets a) 4 0 ∷ get_or (rai_octets a) 5 0 ∷ rest
rai_opened None rest = refl
rai_opened (Some a) rest = refl

pub place_there : (ps : List Plmn) (n : ℕ) (p : Plmn) → n < length ps → p ≡ get_or ps n p → plmn_octets p ≡ place_octets ps n
place_there [] n p h e = absurd (omega arith)
place_there (q ∷ ps) zero p h e = ap plmn_octets e
place_there (q ∷ ps) (suc n) p h e = place_there ps n p (omega arith) e

pub place_empty : (ps : List Plmn) (n : ℕ) → length ps ≤ n → 0xff ∷ 0xff ∷ 0xff ∷ [] ≡ place_octets ps n
place_empty [] n h = refl
place_empty (q ∷ ps) zero h = absurd (omega arith)
place_empty (q ∷ ps) (suc n) h = place_empty ps n (omega arith)

-- the octets of a packet record one by one, and of a circuit record
abbrev pub packet_list : PacketRecord → List ℕ
packet_list p =
    four_octets (identity_bits p.base.identity) ++ (three_octets (signature_bits p.signature)
    ++ get_or (rai_octets p.base.area) 0 0 ∷ get_or (rai_octets p.base.area) 1 0 ∷ get_or (rai_octets p.base.area) 2 0
    ∷ get_or (rai_octets p.base.area) 3 0 ∷ get_or (rai_octets p.base.area) 4 0 ∷ get_or (rai_octets p.base.area) 5 0
    ∷ status_written p.base.status ∷ [])

pub packet_opened : (p : PacketRecord) → packet_octets p ≡ packet_list p
packet_opened p =
    ap (λ rest. four_octets (identity_bits p.base.identity) ++ (three_octets (signature_bits p.signature) ++ rest))
    (rai_opened p.base.area (status_written p.base.status ∷ []))

abbrev pub circuit_list : Record Lai → List ℕ
circuit_list r =
    four_octets (identity_bits r.identity)
    ++ get_or (lai_octets r.area) 0 0 ∷ get_or (lai_octets r.area) 1 0 ∷ get_or (lai_octets r.area) 2 0
    ∷ get_or (lai_octets r.area) 3 0 ∷ get_or (lai_octets r.area) 4 0 ∷ 0xff ∷ status_written r.status ∷ []

pub circuit_opened : (r : Record Lai) → circuit_octets r ≡ circuit_list r
circuit_opened r =
    ap (λ rest. four_octets (identity_bits r.identity) ++ rest) (lai_opened r.area (0xff ∷ status_written r.status ∷ []))

-- the octets of four places one by one, and what follows them
abbrev pub places_list : List ℕ → List ℕ → List ℕ → List ℕ → List ℕ → List ℕ
places_list a b c d rest =
    get_or a 0 0 ∷ get_or a 1 0 ∷ get_or a 2 0 ∷ get_or b 0 0 ∷ get_or b 1 0 ∷ get_or b 2 0
    ∷ get_or c 0 0 ∷ get_or c 1 0 ∷ get_or c 2 0 ∷ get_or d 0 0 ∷ get_or d 1 0 ∷ get_or d 2 0 ∷ rest

abbrev pub forbidden_list : List Plmn → List ℕ → List ℕ
forbidden_list ps rest = places_list (place_octets ps 0) (place_octets ps 1) (place_octets ps 2) (place_octets ps 3) rest

pub forbidden_opened : (ps : List Plmn) (rest : List ℕ) → forbidden_octets ps ++ rest ≡ forbidden_list ps rest
forbidden_opened [] rest = refl
forbidden_opened (p ∷ []) rest = refl
forbidden_opened (p ∷ q ∷ []) rest = refl
forbidden_opened (p ∷ q ∷ r ∷ []) rest = refl
forbidden_opened (p ∷ q ∷ r ∷ s ∷ ps) rest = refl

-- the four places, each as it was written, are the list
pub four_places : (list ps : List Plmn) (a b c d : List ℕ) → list ≡ ps
    → a ≡ place_octets list 0 → b ≡ place_octets list 1 → c ≡ place_octets list 2 → d ≡ place_octets list 3
    → places_list a b c d [] ≡ forbidden_octets ps
four_places list ps a b c d is one two three four =
    (λ k. places_list (one k) (two k) (three k) (four k) [])
    ∙ sym (forbidden_opened list []) ∙ append-nil (forbidden_octets list) ∙ ap forbidden_octets is
