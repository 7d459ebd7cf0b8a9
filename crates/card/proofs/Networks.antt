-- The forbidden networks of a card that is given, taken one after the other.
use Rattle.std.proofs.Common.{◌≡◌, ℕ, ◌+◌, ◌<◌, ◌≤◌, Bool, true, false, cond, ◌&&◌, ◌||◌, leb, List, [], ◌∷◌, ◌++◌, length, get_or, drop, Some, None, Option, sym, refl, ap, ◌∙◌, subst, inl, inr, append_assoc, append-nil, arith}
use Rattle.std.specs.Option.{option_map}
use Rattle.std.proofs.lemmas.List.{drop_all, drop_more, length-append}
use Rattle.std.proofs.lemmas.Bool.{and_from, and_left, and_right, both_ways, cases_Bool, cond-true, cond-false, le-leb, lt-leb, leb-true, leb-false, or_cases, or_parts}
use Rattle.vocabulary.specs.Made.{then}
use Rattle.vocabulary.specs.Places.{plmn_in}
use Rattle.vocabulary.specs.Same.{same_plmn}
use Rattle.vocabulary.specs.declared.values.Plmn.{Plmn}
use Rattle.vocabulary.specs.Told.{plmn_told}
use Rattle.lists.specs.Lists.{member, distinct}
use Rattle.vocabulary.proofs.Inversions.{never, some_same, then_some}
use Rattle.lists.proofs.Additions.{distinct_push}
use Rattle.lists.proofs.Fresh.{fresh}
use Rattle.card.specs.Given.{plmns_from, at_most_four, one_more}

-- a list that a card may hold
abbrev pub Fits : List Plmn → Type 0
Fits ps = (length ps ≤ 4) × (distinct same_plmn ps ≡ true)

-- the networks that follow a list
abbrev pub more_from : List Plmn → List (List ℕ) → Option (List Plmn)
more_from ps os = then (plmns_from os) (λ qs. at_most_four (ps ++ qs))

more_none : (ps : List Plmn) → Fits ps → more_from ps [] ≡ Some ps
more_none ps fits =
    let same = append-nil ps in
    ap at_most_four same
    ∙ cond-true (leb (length ps) 4 && distinct same_plmn ps) (Some ps) None
    (and_from (leb (length ps) 4) _ (le-leb (length ps) 4 fits.0) fits.1)

twice : (ps qs : List Plmn) (p : Plmn) → member same_plmn p ps ≡ true → distinct same_plmn (ps ++ p ∷ qs) ≡ false
twice ps qs p there =
    elim (cases_Bool (distinct same_plmn (ps ++ p ∷ qs))) [
      | inl once ↦ absurd (both_ways (member same_plmn p ps) (fresh same_plmn plmn_told ps qs p once) there)
      | inr no_more ↦ no_more
    ]

-- too many, or one that stands twice
refused : (ps qs : List Plmn) (p : Plmn) → (member same_plmn p ps || leb 4 (length ps)) ≡ true → at_most_four (ps ++ p ∷ qs) ≡ None
refused ps qs p h =
    let whole = ps ++ p ∷ qs in
    let unlawful : (leb (length whole) 4 && distinct same_plmn whole) ≡ false =
    elim (or_cases (member same_plmn p ps) (leb 4 (length ps)) h) [
      | inl there ↦ and_right (leb (length whole) 4) _ (twice ps qs p there)
      | inr full ↦ and_left _ (distinct same_plmn whole) (lt-leb (length whole) 4 (omega (arith, leb-true 4 (length ps) full, length-append ps (p ∷ qs))))
    ] in
    cond-false (leb (length whole) 4 && distinct same_plmn whole) (Some whole) None unlawful

-- one network more, by the answer of the test
one_by_test : (ps : List Plmn) (p : Plmn) (rest : Option (List Plmn)) (b : Bool) → (member same_plmn p ps || leb 4 (length ps)) ≡ b
    → then (option_map (λ qs. p ∷ qs) rest) (λ qs. at_most_four (ps ++ qs)) ≡ then (cond b None (Some (ps ++ p ∷ []))) (λ qs. then rest (λ rs. at_most_four (qs ++ rs)))
one_by_test ps p None true h = refl
one_by_test ps p None false h = refl
one_by_test ps p (Some rest) true h = refused ps rest p h
one_by_test ps p (Some rest) false h = ap at_most_four (sym (append_assoc ps (p ∷ []) rest))

one_read : (ps : List Plmn) (read : Option Plmn) (rest : Option (List Plmn))
    → then (then read (λ p. option_map (λ qs. p ∷ qs) rest)) (λ qs. at_most_four (ps ++ qs))
    ≡ then (then read (λ p. cond (member same_plmn p ps || leb 4 (length ps)) None (Some (ps ++ p ∷ [])))) (λ qs. then rest (λ rs. at_most_four (qs ++ rs)))
one_read ps None rest = refl
one_read ps (Some p) rest = one_by_test ps p rest _ refl

more_one : (ps : List Plmn) (o : List ℕ) (os : List (List ℕ)) → more_from ps (o ∷ os) ≡ then (one_more ps o) (λ qs. more_from qs os)
more_one ps o os = one_read ps (plmn_in o) (plmns_from os)

-- a list with one network more is one that a card may hold
pub one_more_fits : (ps qs : List Plmn) (o : List ℕ) → Fits ps → one_more ps o ≡ Some qs → Fits qs
one_more_fits ps qs o fits e =
    let read = then_some (plmn_in o) (λ p. cond (member same_plmn p ps || leb 4 (length ps)) None (Some (ps ++ p ∷ []))) qs e in
    let p = read.0 in
    elim (cases_Bool (member same_plmn p ps || leb 4 (length ps))) [
      | inl none ↦ absurd (never (sym (cond-true (member same_plmn p ps || leb 4 (length ps)) None (Some (ps ++ p ∷ [])) none) ∙ read.2))
      | inr new ↦
          let made : ps ++ p ∷ [] ≡ qs = some_same _ _ (sym (cond-false (member same_plmn p ps || leb 4 (length ps)) None (Some (ps ++ p ∷ [])) new) ∙ read.2) in
          let parts = or_parts (member same_plmn p ps) (leb 4 (length ps)) new in
          subst Fits made (omega (arith, leb-false 4 (length ps) parts.1, length-append ps (p ∷ [])), distinct_push same_plmn plmn_told ps p fits.1 parts.0)
    ]

pub nothing_fits : (ps : List Plmn) → ps ≡ [] → Fits ps
nothing_fits ps none = subst Fits (sym none) (omega arith, refl)

-- a turn of the loop over what is given, and its end
pub turn : (ps : List Plmn) (os : List (List ℕ)) (i : ℕ) (whole r : Option (List Plmn)) → i < length os
    → r ≡ one_more ps (get_or os i []) → more_from ps (drop i os) ≡ whole → then r (λ qs. more_from qs (drop (i + 1) os)) ≡ whole
turn ps os i whole r within one left =
    ap (λ o. then o (λ qs. more_from qs (drop (i + 1) os))) one
    ∙ sym (more_one ps (get_or os i []) (drop (i + 1) os))
    ∙ ap (more_from ps) (sym (drop_more os i [] within))
    ∙ left

pub end : (ps : List Plmn) (os : List (List ℕ)) (i : ℕ) (whole : Option (List Plmn)) → Fits ps → length os ≤ i
    → more_from ps (drop i os) ≡ whole → Some ps ≡ whole
end ps os i whole fits past left = sym (more_none ps fits) ∙ ap (more_from ps) (sym (drop_all i os past)) ∙ left
