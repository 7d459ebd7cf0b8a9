-- A list of networks that is read out of octets is coded by the same octets.
use Rattle.std.proofs.Common.{◌≡◌, ℕ, zero, suc, ◌+◌, ◌-◌, ◌*◌, ◌/◌, ◌%◌, ◌<◌, ◌≤◌, ◌&&◌, eqb, ltb, List, [], ◌∷◌, ◌++◌, map, length, get_or, take, drop, replicate, Some, None, Option, sym, refl, ap, ◌∙◌, append_assoc, append-nil, arith}
use Rattle.std.proofs.lemmas.List.{drop_all, drop_more, take_all, take_more_set}
use Rattle.std.proofs.Math.ListN.{set}
use Rattle.std.proofs.lemmas.Bool.{cond-true, cond-false, ltb-true, eqb-true, lt-ltb, le-ltb, and_parts, and_from}
use Rattle.std.specs.Option.{option_map}
use Rattle.std.specs.List.{flat_map}
use Rattle.vocabulary.specs.Made.{then}
use Rattle.vocabulary.specs.Places.{plmn_octets, plmn_of}
use Rattle.vocabulary.specs.declared.values.Plmn.{Plmn}
use Rattle.frames.specs.LawsValues.{CodesPlmns}
use Rattle.frames.specs.Values.{entry, plmns_value}
use Rattle.frames.specs.declared.downlink.PlmnList.{PlmnList}
use Rattle.vocabulary.proofs.Inversions.{then_some, mapped_some}
use Rattle.frames.proofs.LawsAreas.{plmn_stands}
use Rattle.frames.proofs.LawsCodes.{cond_some}
use Rattle.frames.proofs.LawsElements.{Octets}

-- n entries from place k on, one after the other
abbrev pub chain : ℕ → ℕ → List ℕ → (List (Option Plmn) → PlmnList) → Option PlmnList
chain zero k v make = Some (make [])
chain (suc n) k v make = then (entry v k) (λ a. chain n (k + 1) v (λ ps. make (a ∷ ps)))

-- a place is filled by its entry
pub chain_more : (n k : ℕ) (v : List ℕ) (make : List (Option Plmn) → PlmnList) (es : List (Option Plmn)) (a : Option Plmn) → k < length es → n ≡ 5 - k → k < 5 → entry v k ≡ Some a
    → chain n k v (λ ps. make (take k es ++ ps)) ≡ chain (5 - (k + 1)) (k + 1) v (λ ps. make (take (k + 1) (set es k a) ++ ps))
chain_more n k v make es a within left few e =
    let one : n ≡ suc (5 - (k + 1)) = omega arith in
    let put : (ps : List (Option Plmn)) → take k es ++ a ∷ ps ≡ take (k + 1) (set es k a) ++ ps =
    λ ps. sym (append_assoc (take k es) (a ∷ []) ps) ∙ ap (λ xs. xs ++ ps) (sym (take_more_set es k a within)) in
    ap (λ m. chain m k v (λ ps. make (take k es ++ ps))) one
    ∙ ap (λ o. then o (λ b. chain (5 - (k + 1)) (k + 1) v (λ ps. make (take k es ++ b ∷ ps)))) e
    ∙ (λ i. chain (5 - (k + 1)) (k + 1) v (λ ps. make (put ps i)))

-- a bad entry refuses the list
pub chain_refused : (n k : ℕ) (v : List ℕ) (make : List (Option Plmn) → PlmnList) → 0 < n → entry v k ≡ None → chain n k v make ≡ None
chain_refused zero k v make some e = absurd (omega arith)
chain_refused (suc n) k v make some e = ap (λ o. then o (λ a. chain n (k + 1) v (λ ps. make (a ∷ ps)))) e

-- all places are filled by their entries
pub chain_full : (k : ℕ) (v : List ℕ) (make : List (Option Plmn) → PlmnList) (es : List (Option Plmn)) → length es ≡ 5 → 5 ≤ k → chain (5 - k) k v (λ ps. make (take k es ++ ps)) ≡ Some (make es)
chain_full k v make es long past =
    let none_left : 5 - k ≡ 0 = omega arith in
    ap (λ m. chain m k v (λ ps. make (take k es ++ ps))) none_left
    ∙ ap (λ xs. Some (make xs)) (append-nil (take k es) ∙ take_all k es (omega arith))

-- a list of one to five networks is what its entries are
pub listed : (v : List ℕ) → 0 < length v → length v < 16 → length v % 3 ≡ 0 → plmns_value v ≡ chain 5 0 v (λ ps. record { entries = ps })
listed v some few threes =
    cond-true (ltb 0 (length v) && (ltb (length v) 16 && eqb (length v % 3) 0)) _ _
    (and_from _ _ (lt-ltb _ _ some) (and_from _ _ (lt-ltb _ _ few) (ap (λ n. eqb n 0) threes)))

-- what those entries are
abbrev Each : ℕ → ℕ → List ℕ → List (Option Plmn) → Type 0
Each zero k v [] = Unit {0}
Each zero k v (a ∷ ps) = ⊥
Each (suc n) k v [] = ⊥
Each (suc n) k v (a ∷ ps) = (entry v k ≡ Some a) × Each n (k + 1) v ps

chain_some : (n k : ℕ) (v : List ℕ) (make : List (Option Plmn) → PlmnList) (l : PlmnList) → chain n k v make ≡ Some l → (ps : List (Option Plmn)) × Each n k v ps × (make ps ≡ l)
chain_some zero k v make l e = ([], tt, cc)
chain_some (suc n) k v make l e =
    let got = then_some (entry v k) (λ a. chain n (k + 1) v (λ ps. make (a ∷ ps))) l e in
    let more = chain_some n (k + 1) v (λ ps. make (got.0 ∷ ps)) l got.2 in
    (got.0 ∷ more.0, (got.1, more.1), more.2)

none_left : (n k : ℕ) (v : List ℕ) (ps : List (Option Plmn)) → length v ≤ 3 * k → Each n k v ps → ps ≡ replicate n None
none_left zero k v [] h each = refl
none_left zero k v (a ∷ ps) h each = absurd each
none_left (suc n) k v [] h each = absurd each
none_left (suc n) k v (a ∷ ps) h each =
    let empty : Some None ≡ Some a = sym (cond-false (ltb (3 * k) (length v)) _ _ (le-ltb _ _ h)) ∙ each.0 in
    let here : a ≡ None = cc in
    let rest = none_left n (k + 1) v ps (omega arith) each.1 in
    λ i. here i ∷ rest i

three_of : (v : List ℕ) (i : ℕ) → i + 3 ≤ length v → drop i v ≡ get_or v i 0 ∷ get_or v (i + 1) 0 ∷ get_or v (i + 2) 0 ∷ drop (i + 3) v
three_of v i h =
    let two : i + 1 + 1 ≡ i + 2 = omega arith in
    let three : i + 2 + 1 ≡ i + 3 = omega arith in
    drop_more v i 0 (omega arith)
    ∙ ap (λ ys. get_or v i 0 ∷ ys) (drop_more v (i + 1) 0 (omega arith)
    ∙ ap (λ ys. get_or v (i + 1) 0 ∷ ys) (ap (λ j. drop j v) two ∙ (drop_more v (i + 2) 0 (omega arith) ∙ ap (λ j. get_or v (i + 2) 0 ∷ drop j v) three)))

-- m networks in n places, from place k on
pub record Filled (m n k : ℕ) (v : List ℕ) (ps : List (Option Plmn)) : Type 0 where
  pub networks : List Plmn
  pub count : length networks ≡ m
  pub octets : drop (3 * k) v ≡ flat_map plmn_octets networks
  pub places : ps ≡ map Some networks ++ replicate (n - m) None

filled : (m n k : ℕ) (v : List ℕ) (ps : List (Option Plmn)) → length v ≡ 3 * k + 3 * m → m ≤ n → Each n k v ps → Filled m n k v ps
filled zero n k v ps long fits each =
    let all : n ≡ n - 0 = omega arith in
    record { networks = []; count = refl; octets = drop_all (3 * k) v (omega arith); places = none_left n k v ps (omega arith) each ∙ ap (λ j. replicate j None) all }
filled (suc m) zero k v ps long fits each = absurd (omega arith)
filled (suc m) (suc n) k v [] long fits each = absurd each
filled (suc m) (suc n) k v (a ∷ ps) long fits each =
    let o = plmn_of (get_or v (3 * k) 0) (get_or v (3 * k + 1) 0) (get_or v (3 * k + 2) 0) in
    let within : 3 * k < length v = omega arith in
    let there = sym (cond-true (ltb (3 * k) (length v)) (option_map Some o) (Some None) (lt-ltb _ _ within)) ∙ each.0 in
    let got = mapped_some Some o a there in
    let rest = filled m n (k + 1) v ps (omega arith) (omega arith) each.1 in
    let next : 3 * k + 3 ≡ 3 * (k + 1) = omega arith in
    let less : n - m ≡ suc n - suc m = omega arith in
    record {
      networks = got.0 ∷ rest.networks;
      count = ap suc rest.count;
      octets =
          three_of v (3 * k) (omega arith)
          ∙ (λ i. sym (plmn_stands _ _ _ got.0 got.1) i ++ (ap (λ j. drop j v) next ∙ rest.octets) i);
      places = (λ i. sym got.2 i ∷ rest.places i) ∙ ap (λ j. Some got.0 ∷ (map Some rest.networks ++ replicate j None)) less;
    }

coded : (m : ℕ) (v : List ℕ) (l : PlmnList) (ps : List (Option Plmn)) → 1 ≤ m → m ≤ 5 → Filled m 5 0 v ps → record { entries = ps } ≡ l → CodesPlmns v l
coded m v l ps least most full same =
    record {
      networks = full.networks;
      count = (omega arith, omega arith);
      octets = full.octets;
      places = ap (λ x. x.entries) (sym same) ∙ (full.places ∙ ap (λ j. map Some full.networks ++ replicate (5 - j) None) (sym full.count));
    }

pub codes_plmns : (v : List ℕ) → Octets v → (l : PlmnList) → plmns_value v ≡ Some l → CodesPlmns v l
codes_plmns v small l e =
    let got = cond_some (ltb 0 (length v) && (ltb (length v) 16 && eqb (length v % 3) 0)) (chain 5 0 v (λ ps. record { entries = ps })) l e in
    let some = and_parts (ltb 0 (length v)) (ltb (length v) 16 && eqb (length v % 3) 0) got.0 in
    let few = and_parts (ltb (length v) 16) (eqb (length v % 3) 0) some.1 in
    let least = ltb-true 0 (length v) some.0 in
    let most = ltb-true (length v) 16 few.0 in
    let threes = eqb-true (length v % 3) 0 few.1 in
    let list = chain_some 5 0 v (λ ps. record { entries = ps }) l got.1 in
    coded (length v / 3) v l list.0 (omega arith) (omega arith) (filled (length v / 3) 5 0 v list.0 (omega arith) (omega arith) list.1) list.2
