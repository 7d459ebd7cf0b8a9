-- What removing an entry does to the list.
use Rattle.std.proofs.Common.{◌≡◌, ℕ, ◌+◌, ◌<◌, ◌≤◌, Bool, true, false, cond, not, List, [], ◌∷◌, ◌++◌, length, get_or, take, drop, Decides, filter, sym, refl, ap, ◌∙◌, subst, inl, inr, arith, take-append-drop}
use Rattle.std.proofs.lemmas.List.{append-nil, drop_more, length_push}
use Rattle.std.proofs.lemmas.List.Elements.{filter_more}
use Rattle.std.specs.List.{ContainsAt as Has}
use Rattle.std.proofs.ByRecursion.{all-has, kept_by_passes}
use Rattle.std.proofs.lemmas.Bool.{both_ways, not-true, not_from_true, not_from_false, and_parts, and_from, or_parts, or_from, or_cases, cases_Bool, cond-true, cond-false, cond_both, true≢false}
use Rattle.lists.specs.Lists.{member, distinct, removed}
use Rattle.lists.specs.Laws.{Removes}
use Rattle.lists.proofs.Fresh.{fresh}
use Rattle.lists.proofs.Members.{member_decides, member_not, once_from_distinct}

module _ {X : Type 0} (same : X → X → Bool) where
  member_kept_not : (p : X → Bool) (y : X) (xs : List X) → member same y xs ≡ false → member same y (filter p xs) ≡ false
  member_kept_not p y [] h = refl
  member_kept_not p y (z ∷ zs) h =
      let parts = or_parts (same z y) (member same y zs) h in
      let rest = member_kept_not p y zs parts.1 in
      cond_both (p z) (z ∷ filter p zs) (filter p zs) (λ l. member same y l ≡ false) (λ _. or_from (same z y) _ parts.0 rest) (λ _. rest)

  distinct_kept : (p : X → Bool) (xs : List X) → distinct same xs ≡ true → distinct same (filter p xs) ≡ true
  distinct_kept p [] h = refl
  distinct_kept p (x ∷ xs) h =
      let parts = and_parts (not (member same x xs)) _ h in
      let rest = distinct_kept p xs parts.1 in
      cond_both (p x) (x ∷ filter p xs) (filter p xs) (λ l. distinct same l ≡ true)
      (λ _. and_from (not (member same x (filter p xs))) _ (not_from_false _ (member_kept_not p x xs (not-true _ parts.0))) rest)
      (λ _. rest)

  pub distinct_removed : (xs : List X) (x : X) → distinct same xs ≡ true → distinct same (removed same xs x) ≡ true
  unfolding removed
  distinct_removed xs x h = distinct_kept (λ y. not (same y x)) xs h

  pub removed_none : (xs : List X) (x : X) → member same x xs ≡ false → removed same xs x ≡ xs
  unfolding removed
  removed_none [] x h = refl
  removed_none (y ∷ ys) x h =
      let parts = or_parts (same y x) (member same x ys) h in
      cond-true (not (same y x)) _ _ (not_from_false _ parts.0) ∙ ap (λ l. y ∷ l) (removed_none ys x parts.1)

  module _ (decides : (x y : X) → Decides (same x y) (x ≡ y)) where
    removed_gone : (xs : List X) (x : X) → Has (removed same xs x) x → ⊥
    unfolding removed
    removed_gone xs x h =
        let kept = all-has (λ y. not (same y x) ≡ true) (filter (λ y. not (same y x)) xs) x (kept_by_passes (λ y. not (same y x)) xs) h in
        both_ways (same x x) (not-true _ kept) ((decides x x).1 refl)

    removed_others : (xs : List X) (x : X) → distinct same xs ≡ true → member same x xs ≡ true
        → (older : List X) × (newer : List X) × (xs ≡ older ++ x ∷ newer) × (removed same xs x ≡ older ++ newer)
    unfolding removed
    removed_others [] x once h = absurd (true≢false (sym h))
    removed_others (y ∷ ys) x once h =
        let parts = and_parts (not (member same y ys)) _ once in
        elim (cases_Bool (same y x)) [
          | inl e ↦
              let is = (decides y x).0 e in
              let alone : member same x ys ≡ false = subst (λ z. member same z ys ≡ false) is (not-true _ parts.0) in
              ([], ys, ap (λ z. z ∷ ys) is, cond-false (not (same y x)) _ _ (not_from_true _ e) ∙ removed_none ys x alone)
          | inr e ↦
              let later : member same x ys ≡ true = elim (or_cases (same y x) (member same x ys) h) [ inl t ↦ absurd (both_ways _ e t) | inr t ↦ t ] in
              let rest = removed_others ys x parts.1 later in
              (y ∷ rest.0, rest.1, ap (λ l. y ∷ l) rest.2, cond-true (not (same y x)) _ _ (not_from_false _ e) ∙ ap (λ l. y ∷ l) rest.3)
        ]

    pub removes : (xs : List X) (x : X) → distinct same xs ≡ true → Removes xs x (removed same xs x)
    removes xs x once =
        record {
          once = once_from_distinct same decides (removed same xs x) (distinct_removed xs x once);
          gone = removed_gone xs x;
          unchanged = λ none. removed_none xs x (member_not same decides x xs none);
          others = λ h. removed_others xs x once ((member_decides same decides x xs).1 h);
        }

    -- a list that is built anew has not the next entry
    pub removed_new : (xs kept : List X) (i : ℕ) (x y : X) → distinct same xs ≡ true → i < length xs → y ≡ get_or xs i y
        → kept ≡ removed same (take i xs) x → member same y kept ≡ false
    unfolding removed
    removed_new xs kept i x y once within read is =
        let whole : xs ≡ take i xs ++ y ∷ drop (i + 1) xs =
        sym (take-append-drop i xs) ∙ ap (λ l. take i xs ++ l) (drop_more xs i y within ∙ ap (λ z. z ∷ drop (i + 1) xs) (sym read)) in
        let front = fresh same decides (take i xs) (drop (i + 1) xs) y (ap (distinct same) (sym whole) ∙ once) in
        ap (member same y) is ∙ member_kept_not (λ z. not (same z x)) y (take i xs) front

    -- it takes that entry, unless it is the one to remove
    pub removed_next : (xs kept : List X) (i : ℕ) (x y : X) → i < length xs → y ≡ get_or xs i y → same y x ≡ false
        → kept ≡ removed same (take i xs) x → kept ++ y ∷ [] ≡ removed same (take (i + 1) xs) x
    unfolding removed
    removed_next xs kept i x y within read other is =
        let p : X → Bool = λ z. not (same z x) in
        let more = filter_more p xs i y within ∙ ap (λ z. filter p (take i xs) ++ cond (p z) (z ∷ []) []) (sym read)
        ∙ ap (λ l. filter p (take i xs) ++ l) (cond-true (p y) (y ∷ []) [] (not_from_false _ other)) in
        ap (λ l. l ++ y ∷ []) is ∙ sym more

    pub removed_same : (xs kept : List X) (i : ℕ) (x y : X) → i < length xs → y ≡ get_or xs i y → same y x ≡ true
        → kept ≡ removed same (take i xs) x → kept ≡ removed same (take (i + 1) xs) x
    unfolding removed
    removed_same xs kept i x y within read it is =
        let p : X → Bool = λ z. not (same z x) in
        is ∙ sym (filter_more p xs i y within ∙ ap (λ z. filter p (take i xs) ++ cond (p z) (z ∷ []) []) (sym read)
        ∙ ap (λ l. filter p (take i xs) ++ l) (cond-false (p y) (y ∷ []) [] (not_from_true _ it)) ∙ append-nil (filter p (take i xs)))

    -- the list so far, once the next entry is kept or is the one to remove
    pub removed_more : (xs kept made : List X) (i : ℕ) (x y : X) → i < length xs
        → y ≡ get_or xs i y → kept ≡ removed same (take i xs) x → length kept ≤ i → made ≡ cond (same y x) kept (kept ++ y ∷ [])
        → (made ≡ removed same (take (i + 1) xs) x) × (length made ≤ i + 1)
    removed_more xs kept made i x y within read is short made-is =
        elim (cases_Bool (same y x)) [
          | inl e ↦
              let same_as : made ≡ kept = made-is ∙ cond-true (same y x) kept (kept ++ y ∷ []) e in
              (same_as ∙ removed_same xs kept i x y within read e is, omega (arith, ap length same_as))
          | inr e ↦
              let same_as : made ≡ kept ++ y ∷ [] = made-is ∙ cond-false (same y x) kept (kept ++ y ∷ []) e in
              (same_as ∙ removed_next xs kept i x y within read e is, omega (arith, ap length same_as, length_push kept y))
        ]
