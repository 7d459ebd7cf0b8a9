-- What the places of a lawful IMSI hold.
use Rattle.std.proofs.Common.{◌≡◌, ℕ, zero, suc, ◌+◌, ◌<◌, ◌≤◌, true, eqb, leb, List, [], ◌∷◌, length, get_or, arith}
use Rattle.std.proofs.lemmas.Bool.{and_parts, leb-true, eqb-true}
use Rattle.std.proofs.lemmas.Bool.Decides.{nat_tests}
use Rattle.identities.specs.Marks.{digits_then_filler, place_fits}
use Rattle.identities.specs.declared.values.Imsi.{Imsi}

place_small : (n i d : ℕ) → place_fits n i d ≡ true → d < 16
place_small n i d h = grind (arith, nat_tests)

pub places_small : (n i : ℕ) (ds : List ℕ) (k : ℕ) → digits_then_filler n i ds ≡ true → get_or ds k 0 < 16
places_small n i [] k h = omega arith
places_small n i (d ∷ ds) zero h = place_small n i d (and_parts _ _ h).0
places_small n i (d ∷ ds) (suc k) h = places_small n (i + 1) ds k (and_parts _ _ h).1

place_filler : (n i d : ℕ) → place_fits n i d ≡ true → n ≤ i → d ≡ 15
place_filler n i d h past = grind (arith, nat_tests)

fillers : (n i : ℕ) (ds : List ℕ) (k : ℕ) → digits_then_filler n i ds ≡ true → k < length ds → n ≤ i + k → get_or ds k 0 ≡ 15
fillers n i [] k h within past = omega arith
fillers n i (d ∷ ds) zero h within past = place_filler n i d (and_parts _ _ h).0 (omega arith)
fillers n i (d ∷ ds) (suc k) h within past = fillers n (i + 1) ds k (and_parts _ _ h).1 (omega arith) (omega arith)

parts : (i : Imsi) → (i.len ≤ 15) × (length i.digits ≡ 15) × (digits_then_filler i.len 0 i.digits ≡ true)
parts i =
    let most = and_parts (leb i.len 15) _ (and_parts (leb 6 i.len) _ i.lawful).1 in
    let places = and_parts (eqb (length i.digits) 15) _ most.1 in
    (leb-true i.len 15 most.0, eqb-true (length i.digits) 15 places.0, places.1)

pub len_most : (i : Imsi) → i.len ≤ 15
len_most i = (parts i).0

pub fifteen_places : (i : Imsi) → length i.digits ≡ 15
fifteen_places i = (parts i).1

pub filler_at : (i : Imsi) (k : ℕ) → k < 15 → i.len ≤ k → get_or i.digits k 0 ≡ 15
filler_at i k within past = fillers i.len 0 i.digits k (parts i).2 (omega (arith, fifteen_places i)) (omega arith)

pub half_small : (i : Imsi) (k : ℕ) → get_or i.digits k 0 < 16
half_small i k = places_small i.len 0 i.digits k (parts i).2
