-- What the equivalent networks are, told by membership.
use Rattle.std.proofs.Common.{◌≡◌, ℕ, zero, suc, ◌+◌, ◌-◌, ◌<◌, ◌≤◌, true, ◌⊎◌, List, [], ◌∷◌, ◌++◌, length, get_or, drop, Some, None, Option, sym, refl, ap, ◌∙◌, subst, inl, inr, arith}
use Rattle.std.specs.List.{ContainsAt as Has}
use Rattle.std.proofs.ByRecursion.{has_push, has_push_cases, has_append_left}
use Rattle.std.proofs.lemmas.List.{append-nil, append_assoc, at_drop_more, at_drop_all}
use Rattle.std.proofs.lemmas.Bool.{cases_Bool, cond-true, cond-false, cond_both}
use Rattle.std.proofs.lemmas.Bool.Decides.{not_from_Decides}
use Rattle.vocabulary.specs.declared.values.Plmn.{Plmn}
use Rattle.vocabulary.specs.Same.{same_plmn}
use Rattle.vocabulary.specs.Told.{plmn_told}
use Rattle.lists.specs.Lists.{member, distinct, added}
use Rattle.lists.specs.Laws.{Among, Equates}
use Rattle.lists.specs.Equivalents.{kept_one, kept_entries, followed_by, equivalents_from, given_entries}
use Rattle.lists.proofs.Members.{member_decides, member_not, once_from_distinct}
use Rattle.lists.proofs.Additions.{added_there, added_newest, distinct_push}

-- where there is room, an entry that is added follows the others
pub added_with_room : (limit : ℕ) (kept : List Plmn) (p : Plmn) → length kept < limit → added same_plmn limit kept p ≡ followed_by kept p
added_with_room limit kept p room =
    elim (cases_Bool (member same_plmn p kept)) [
      | inl e ↦ added_there same_plmn limit kept p e ∙ sym (cond-true (member same_plmn p kept) _ _ e)
      | inr e ↦
          let none : length kept + 1 - limit ≡ 0 = omega arith in
          added_newest same_plmn limit kept p e
          ∙ ap (λ n. drop n (kept ++ p ∷ [])) none
          ∙ sym (cond-false (member same_plmn p kept) _ _ e)
    ]

-- a loop over the entries: what is left gives the list, one entry on and at the end
pub entries_more : (forbidden kept after all : List Plmn) (entries : List (Option Plmn)) (i : ℕ) (d : Option Plmn) → i < length entries
    → after ≡ kept_one forbidden kept (get_or entries i d) → kept_entries forbidden kept (drop i entries) ≡ all
    → kept_entries forbidden after (drop (i + 1) entries) ≡ all
entries_more forbidden kept after all entries i d within is left =
    ap (λ l. kept_entries forbidden l (drop (i + 1) entries)) is
    ∙ sym (at_drop_more (kept_entries forbidden kept) entries i d within)
    ∙ left

pub entries_all : (forbidden kept all : List Plmn) (entries : List (Option Plmn)) (i : ℕ) → length entries ≤ i
    → kept_entries forbidden kept (drop i entries) ≡ all → kept ≡ all
entries_all forbidden kept all entries i end left = sym (at_drop_all (kept_entries forbidden kept) entries i end) ∙ left

-- entries in their order, of a list that goes on
among_longer : {X : Type 0} (xs ys : List X) (z : X) → Among xs ys → Among xs (ys ++ z ∷ [])
among_longer [] ys z h = tt
among_longer (x ∷ xs) [] z h = absurd h
among_longer (x ∷ xs) (y ∷ ys) z (inl h) = inl (h.0, among_longer xs ys z h.1)
among_longer (x ∷ xs) (y ∷ ys) z (inr h) = inr (among_longer (x ∷ xs) ys z h)

among_push : {X : Type 0} (xs ys : List X) (z : X) → Among xs ys → Among (xs ++ z ∷ []) (ys ++ z ∷ [])
among_push [] [] z h = inl (refl, tt)
among_push [] (y ∷ ys) z h = inr (among_push [] ys z tt)
among_push (x ∷ xs) [] z h = absurd h
among_push (x ∷ xs) (y ∷ ys) z (inl h) = inl (h.0, among_push xs ys z h.1)
among_push (x ∷ xs) (y ∷ ys) z (inr h) = inr (among_push (x ∷ xs) ys z h)

-- one entry
with_once : (kept : List Plmn) (p : Plmn) → distinct same_plmn kept ≡ true → distinct same_plmn (followed_by kept p) ≡ true
with_once kept p once =
    cond_both (member same_plmn p kept) kept (kept ++ p ∷ []) (λ l. distinct same_plmn l ≡ true) (λ _. once)
    (λ e. distinct_push same_plmn plmn_told kept p once e)

with_has : (kept : List Plmn) (p : Plmn) → Has (followed_by kept p) p
with_has kept p =
    cond_both (member same_plmn p kept) kept (kept ++ p ∷ []) (λ l. Has l p) (λ e. (member_decides same_plmn plmn_told p kept).0 e) (λ _. has_push kept p)

with_stays : (kept : List Plmn) (p x : Plmn) → Has kept x → Has (followed_by kept p) x
with_stays kept p x h =
    cond_both (member same_plmn p kept) kept (kept ++ p ∷ []) (λ l. Has l x) (λ _. h) (λ _. has_append_left kept (p ∷ []) x h)

with_cases : (kept : List Plmn) (p x : Plmn) → Has (followed_by kept p) x → Has kept x ⊎ (p ≡ x)
with_cases kept p x =
    cond_both (member same_plmn p kept) kept (kept ++ p ∷ []) (λ l. Has l x → Has kept x ⊎ (p ≡ x)) (λ _ h. inl h) (λ _ h. has_push_cases kept p x h)

-- what holds of a list that keeps an entry, from what holds where the entry is forbidden and where it is not
by_forbidden : (P : List Plmn → Type 0) (forbidden kept : List Plmn) (p : Plmn) → P kept
    → ((Has forbidden p → ⊥) → P (followed_by kept p)) → P (kept_one forbidden kept (Some p))
by_forbidden P forbidden kept p there new =
    cond_both (member same_plmn p forbidden) kept (followed_by kept p) P (λ _. there)
    (λ e. new (not_from_Decides (member same_plmn p forbidden) (member_decides same_plmn plmn_told p forbidden) e))

with_among : (kept before : List Plmn) (p : Plmn) → Among kept before → Among (followed_by kept p) (before ++ p ∷ [])
with_among kept before p h =
    cond_both (member same_plmn p kept) kept (kept ++ p ∷ []) (λ l. Among l (before ++ p ∷ [])) (λ _. among_longer kept before p h)
    (λ _. among_push kept before p h)

-- all entries
entries_once : (forbidden kept : List Plmn) (entries : List (Option Plmn)) → distinct same_plmn kept ≡ true
    → distinct same_plmn (kept_entries forbidden kept entries) ≡ true
entries_once forbidden kept [] once = once
entries_once forbidden kept (None ∷ more) once = entries_once forbidden kept more once
entries_once forbidden kept (Some p ∷ more) once =
    entries_once forbidden (kept_one forbidden kept (Some p)) more
    (by_forbidden (λ l. distinct same_plmn l ≡ true) forbidden kept p once (λ _. with_once kept p once))

entries_stay : (forbidden kept : List Plmn) (entries : List (Option Plmn)) (x : Plmn) → Has kept x → Has (kept_entries forbidden kept entries) x
entries_stay forbidden kept [] x h = h
entries_stay forbidden kept (None ∷ more) x h = entries_stay forbidden kept more x h
entries_stay forbidden kept (Some p ∷ more) x h =
    entries_stay forbidden (kept_one forbidden kept (Some p)) more x
    (by_forbidden (λ l. Has l x) forbidden kept p h (λ _. with_stays kept p x h))

entries_allowed : (forbidden kept : List Plmn) (entries : List (Option Plmn)) (x : Plmn) → Has forbidden x
    → (Has kept x → ⊥) → Has (kept_entries forbidden kept entries) x → ⊥
entries_allowed forbidden kept [] x barred none = none
entries_allowed forbidden kept (None ∷ more) x barred none = entries_allowed forbidden kept more x barred none
entries_allowed forbidden kept (Some p ∷ more) x barred none =
    entries_allowed forbidden (kept_one forbidden kept (Some p)) more x barred
    (by_forbidden (λ l. Has l x → ⊥) forbidden kept p none
    (λ free h. elim (with_cases kept p x h) [ inl old ↦ none old | inr is ↦ free (subst (Has forbidden) (sym is) barred) ]))

has_none : (x : Plmn) → Has [] x → ⊥
has_none x h = omega (arith, h.1)

has_later : (y : Plmn) (ys : List Plmn) (x : Plmn) → Has ys x → Has (y ∷ ys) x
has_later y ys x h = (suc h.0, omega (arith, h.1), h.2)

has_first_or_later : (y : Plmn) (ys : List Plmn) (x : Plmn) (k : ℕ) → k < length (y ∷ ys) → ((d : Plmn) → get_or (y ∷ ys) k d ≡ x) → (y ≡ x) ⊎ Has ys x
has_first_or_later y ys x zero within is = inl (is x)
has_first_or_later y ys x (suc k) within is = inr (k, omega arith, is)

entries_offered : (forbidden kept : List Plmn) (entries : List (Option Plmn)) (x : Plmn) → Has (kept_entries forbidden kept entries) x
    → Has kept x ⊎ Has (given_entries entries) x
entries_offered forbidden kept [] x h = inl h
entries_offered forbidden kept (None ∷ more) x h = entries_offered forbidden kept more x h
entries_offered forbidden kept (Some p ∷ more) x h =
    elim (entries_offered forbidden (kept_one forbidden kept (Some p)) more x h) [
      | inl one ↦
          by_forbidden (λ l. Has l x → Has kept x ⊎ Has (p ∷ given_entries more) x) forbidden kept p (λ old. inl old)
          (λ _ new. elim (with_cases kept p x new) [ inl old ↦ inl old | inr is ↦ inr (0, omega arith, λ _. is) ]) one
      | inr later ↦ inr (has_later p (given_entries more) x later)
    ]

entries_among : (forbidden kept before : List Plmn) (entries : List (Option Plmn)) → Among kept before
    → Among (kept_entries forbidden kept entries) (before ++ given_entries entries)
entries_among forbidden kept before [] h = subst (Among kept) (sym (append-nil before)) h
entries_among forbidden kept before (None ∷ more) h = entries_among forbidden kept before more h
entries_among forbidden kept before (Some p ∷ more) h =
    subst (Among (kept_entries forbidden (kept_one forbidden kept (Some p)) more)) (append_assoc before (p ∷ []) (given_entries more))
    (entries_among forbidden (kept_one forbidden kept (Some p)) (before ++ p ∷ []) more
    (by_forbidden (λ l. Among l (before ++ p ∷ [])) forbidden kept p (among_longer kept before p h) (λ _. with_among kept before p h)))

entries_complete : (forbidden kept : List Plmn) (entries : List (Option Plmn)) (x : Plmn) → (Has forbidden x → ⊥)
    → Has (given_entries entries) x → Has (kept_entries forbidden kept entries) x
entries_complete forbidden kept [] x free h = absurd (has_none x h)
entries_complete forbidden kept (None ∷ more) x free h = entries_complete forbidden kept more x free h
entries_complete forbidden kept (Some p ∷ more) x free h =
    elim (has_first_or_later p (given_entries more) x h.0 h.1 h.2) [
      | inl is ↦
          let allowed = member_not same_plmn plmn_told p forbidden (λ barred. free (subst (Has forbidden) is barred)) in
          entries_stay forbidden (kept_one forbidden kept (Some p)) more x
          (subst (λ l. Has l x) (sym (cond-false (member same_plmn p forbidden) kept (followed_by kept p) allowed))
          (subst (Has (followed_by kept p)) is (with_has kept p)))
      | inr later ↦ entries_complete forbidden (kept_one forbidden kept (Some p)) more x free later
    ]

pub equates : (entries : List (Option Plmn)) (forbidden : List Plmn) (accepted : Plmn)
    → Equates (given_entries entries) forbidden accepted (equivalents_from entries forbidden accepted)
equates entries forbidden accepted =
    let kept = kept_entries forbidden [] entries in
    record {
      once =
          once_from_distinct same_plmn plmn_told (followed_by kept accepted) (with_once kept accepted (entries_once forbidden [] entries refl));
      accepts = with_has kept accepted;
      allowed = λ x h barred.
          elim (with_cases kept accepted x h) [
            | inl old ↦ absurd (entries_allowed forbidden [] entries x barred (has_none x) old)
            | inr is ↦ sym is
          ];
      offered = λ x h.
          elim (with_cases kept accepted x h) [
            | inl old ↦ elim (entries_offered forbidden [] entries x old) [ inl none ↦ absurd (has_none x none) | inr given ↦ inr given ]
            | inr is ↦ inl (sym is)
          ];
      ordered = with_among kept (given_entries entries) accepted (entries_among forbidden [] [] entries tt);
      complete = λ x given free. with_stays kept accepted x (entries_complete forbidden [] entries x free given);
    }
