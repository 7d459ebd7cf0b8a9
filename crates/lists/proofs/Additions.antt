-- What adding an entry does, in the slots and to the list.
use Rattle.std.proofs.Common.{◌≡◌, ℕ, zero, suc, ◌+◌, ◌-◌, ◌<◌, ◌≤◌, Bool, true, false, cond, not, eqb, ltb, List, [], ◌∷◌, ◌++◌, length, take, drop, set, replicate, Decides, sym, refl, ap, ◌∙◌, subst, inl, inr, lt_irrefl, arith, length-drop, length-set, take-append-drop}
use Rattle.std.specs.List.{ContainsAt as Has}
use Rattle.std.proofs.ByRecursion.{has_push}
use Rattle.std.proofs.lemmas.List.{length_push, length-take-le, take_more_set, take_all, set_at, drop-append-le, drop-set-lt, drop-replicate}
use Rattle.std.proofs.Math.ListN.{drop_of_length-le}
use Rattle.std.proofs.lemmas.Grind.{drop_more_same}
use Rattle.std.proofs.lemmas.Bool.{both_ways, not-true, not_from_false, and_parts, and_from, or_parts, or_from, cases_Bool, cond-true, cond-false, ltb-true, ltb-false}
use Rattle.std.proofs.lemmas.Bool.Decides.{nat_tests}
use Rattle.lists.specs.Held.{Held}
use Rattle.lists.specs.Lists.{member, distinct, added}
use Rattle.lists.specs.Laws.{Adds}
use Rattle.lists.proofs.Members.{member_decides, member_not, once_from_distinct}

pub some_slots : (n : ℕ) → eqb n 0 ≡ false → 0 < n
some_slots n h = grind (arith, nat_tests)

pub no_slots : (n : ℕ) → eqb n 0 ≡ true → n ≡ 0
no_slots n h = grind (arith, nat_tests)

pub slot_within : (count at limit : ℕ) → count ≤ limit → 0 < limit → at ≡ cond (ltb count limit) count (count - 1) → at < limit
slot_within count at limit within some is = grind (arith, nat_tests)

module _ {X : Type 0} (same : X → X → Bool) where
  pub added_there : (limit : ℕ) (xs : List X) (x : X) → member same x xs ≡ true → added same limit xs x ≡ xs
  unfolding added
  added_there limit xs x h = cond-true (member same x xs) _ _ h

  pub added_newest : (limit : ℕ) (xs : List X) (x : X) → member same x xs ≡ false
      → added same limit xs x ≡ drop (length xs + 1 - limit) (xs ++ x ∷ [])
  unfolding added
  added_newest limit xs x h = cond-false (member same x xs) _ _ h

  -- a list that may have no entry keeps none
  pub added_nowhere : (xs : List X) (x : X) → length xs ≡ 0 → xs ≡ added same 0 xs x
  unfolding added
  added_nowhere [] x none = refl
  added_nowhere (y ∷ ys) x none = absurd (omega arith)

  -- the slot behind the newest is free
  pub added_in_room : (slots : List X) (count : ℕ) (x : X) → count < length slots → member same x (take count slots) ≡ false
      → take (count + 1) (set slots count x) ≡ added same (length slots) (take count slots) x
  added_in_room slots count x room h =
      let none : length (take count slots) + 1 - length slots ≡ 0 = omega (arith, length-take-le count slots) in
      take_more_set slots count x room
      ∙ sym (ap (λ n. drop n (take count slots ++ x ∷ [])) none)
      ∙ sym (added_newest (length slots) (take count slots) x h)

  -- the slots are full: each entry moved to the slot before its own, and the newest took the last
  pub added_in_full : (slots rotated : List X) (count : ℕ) (x : X) → count ≡ length slots → 0 < length slots
      → rotated ≡ drop 1 slots ++ take 1 slots → member same x (take count slots) ≡ false
      → take count (set rotated (count - 1) x) ≡ added same (length slots) (take count slots) x
  added_in_full [] rotated count x full some turned h = absurd (lt_irrefl 0 some)
  added_in_full (y ∷ ys) rotated count x full some turned h =
      let last : length ys ≡ count - 1 = omega (arith, full) in
      let one : length (take count (y ∷ ys)) + 1 - length (y ∷ ys) ≡ 1 = omega (arith, length-take-le count (y ∷ ys)) in
      let whole : take count (y ∷ ys) ≡ y ∷ ys = take_all count (y ∷ ys) (omega (arith, full)) in
      ap (λ l. take count (set l (count - 1) x)) turned
      ∙ ap (take count) (set_at ys y [] x (count - 1) last)
      ∙ take_all count (ys ++ x ∷ []) (omega (arith, full, length_push ys x))
      ∙ ap (λ l. drop 1 (l ++ x ∷ [])) (sym whole)
      ∙ sym (ap (λ n. drop n (take count (y ∷ ys) ++ x ∷ [])) one)
      ∙ sym (added_newest (length (y ∷ ys)) (take count (y ∷ ys)) x h)

  -- the slot that is made free takes the newest
  pub added_in_slot : (slots made : List X) (count at : ℕ) (x : X) → count ≤ length slots → 0 < length slots
      → at ≡ cond (ltb count (length slots)) count (count - 1)
      → made ≡ cond (ltb count (length slots)) slots (drop 1 slots ++ take 1 slots)
      → member same x (take count slots) ≡ false
      → take (at + 1) (set made at x) ≡ added same (length slots) (take count slots) x
  added_in_slot slots made count at x within some is made-is h =
      elim (cases_Bool (ltb count (length slots))) [
        | inl e ↦
            let at_is = is ∙ cond-true (ltb count (length slots)) count (count - 1) e in
            let kept = made-is ∙ cond-true (ltb count (length slots)) slots _ e in
            (λ k. take (at_is k + 1) (set (kept k) (at_is k) x)) ∙ added_in_room slots count x (ltb-true count (length slots) e) h
        | inr e ↦
            let at_is = is ∙ cond-false (ltb count (length slots)) count (count - 1) e in
            let turned = made-is ∙ cond-false (ltb count (length slots)) slots _ e in
            let full : count ≡ length slots = omega (arith, ltb-false count (length slots) e) in
            let next : at + 1 ≡ count = omega arith in
            (λ k. take (next k) (set (turned k) (at_is k) x)) ∙ added_in_full slots (drop 1 slots ++ take 1 slots) count x full some refl h
      ]

  member_push_not : (y : X) (xs : List X) (x : X) → member same y xs ≡ false → same x y ≡ false → member same y (xs ++ x ∷ []) ≡ false
  member_push_not y [] x h e = or_from (same x y) false e refl
  member_push_not y (z ∷ zs) x h e =
      let parts = or_parts (same z y) (member same y zs) h in
      or_from (same z y) _ parts.0 (member_push_not y zs x parts.1 e)

  pub distinct_drop : (n : ℕ) (xs : List X) → distinct same xs ≡ true → distinct same (drop n xs) ≡ true
  distinct_drop zero xs h = h
  distinct_drop (suc n) [] h = refl
  distinct_drop (suc n) (x ∷ xs) h = distinct_drop n xs (and_parts (not (member same x xs)) _ h).1

  module _ (decides : (x y : X) → Decides (same x y) (x ≡ y)) where
    flipped : (x y : X) → same x y ≡ false → same y x ≡ false
    flipped x y h =
        elim (cases_Bool (same y x)) [ inl e ↦ absurd (both_ways (same x y) h ((decides x y).1 (sym ((decides y x).0 e)))) | inr e ↦ e ]

    pub distinct_push : (xs : List X) (x : X) → distinct same xs ≡ true → member same x xs ≡ false → distinct same (xs ++ x ∷ []) ≡ true
    distinct_push [] x once new = refl
    distinct_push (y ∷ ys) x once new =
        let parts = and_parts (not (member same y ys)) _ once in
        let others = or_parts (same y x) (member same x ys) new in
        and_from (not (member same y (ys ++ x ∷ []))) _
        (not_from_false _ (member_push_not y ys x (not-true _ parts.0) (flipped y x others.0)))
        (distinct_push ys x parts.1 others.1)

    pub distinct_added : (limit : ℕ) (xs : List X) (x : X) → distinct same xs ≡ true → distinct same (added same limit xs x) ≡ true
    distinct_added limit xs x once =
        elim (cases_Bool (member same x xs)) [
          | inl e ↦ ap (distinct same) (added_there limit xs x e) ∙ once
          | inr e ↦ ap (distinct same) (added_newest limit xs x e) ∙ distinct_drop (length xs + 1 - limit) (xs ++ x ∷ []) (distinct_push xs x once e)
        ]

    length_added : (limit : ℕ) (xs : List X) (x : X) → length xs ≤ limit → length (added same limit xs x) ≤ limit
    length_added limit xs x bound =
        elim (cases_Bool (member same x xs)) [
          | inl e ↦ omega (arith, ap length (added_there limit xs x e))
          | inr e ↦
              let long = length-drop (length xs + 1 - limit) (xs ++ x ∷ []) in
              omega (arith, ap length (added_newest limit xs x e), long, length_push xs x)
        ]

    added_has : (limit : ℕ) (xs : List X) (x : X) → 0 < limit → length xs ≤ limit → Has (added same limit xs x) x
    added_has limit xs x some bound =
        elim (cases_Bool (member same x xs)) [
          | inl e ↦ subst (λ l. Has l x) (sym (added_there limit xs x e)) ((member_decides same decides x xs).0 e)
          | inr e ↦
              let kept = drop-append-le (length xs + 1 - limit) xs (x ∷ []) (omega arith) in
              subst (λ l. Has l x) (sym (added_newest limit xs x e ∙ kept)) (has_push (drop (length xs + 1 - limit) xs) x)
        ]

    pub adds : (limit : ℕ) (xs : List X) (x : X) → 0 < limit → length xs ≤ limit → distinct same xs ≡ true → Adds limit xs x (added same limit xs x)
    adds limit xs x some bound once =
        record {
          once = once_from_distinct same decides (added same limit xs x) (distinct_added limit xs x once);
          bound = length_added limit xs x bound;
          there = added_has limit xs x some bound;
          unchanged = λ h. added_there limit xs x ((member_decides same decides x xs).1 h);
          newest =
              λ none.
              let gone = length xs + 1 - limit in
              let new = added_newest limit xs x (member_not same decides x xs none) in (
                take gone (xs ++ x ∷ []),
                sym (take-append-drop gone (xs ++ x ∷ [])) ∙ ap (λ l. take gone (xs ++ x ∷ []) ++ l) (sym new),
                length-take-le gone (xs ++ x ∷ []) (omega (arith, length_push xs x)),
              );
        }

    -- the slots hold the list when the newest stands in the slot that was made free
    pub held_added : (limit : ℕ) (unused : X) (slots made : List X) (count at : ℕ) (x : X)
        → Held same limit unused slots count → 0 < length slots
        → at ≡ cond (ltb count (length slots)) count (count - 1)
        → made ≡ cond (ltb count (length slots)) slots (drop 1 slots ++ take 1 slots)
        → length made ≡ length slots → member same x (take count slots) ≡ false
        → Held same limit unused (set made at x) (at + 1)
    held_added limit unused slots made count at x held some is made-is whole new =
        let within : count ≤ length slots = omega (arith, held.bound, held.long) in
        let in_slot = added_in_slot slots made count at x within some is made-is new in
        let long : length (set made at x) ≡ limit = length-set made at x ∙ whole ∙ held.long in
        record {
          long = long;
          bound = omega (arith, held.long, slot_within count at (length slots) within some is);
          once = ap (distinct same) in_slot ∙ distinct_added (length slots) (take count slots) x held.once;
          rest =
              elim (cases_Bool (ltb count (length slots))) [
                | inl e ↦
                    let at_is = is ∙ cond-true (ltb count (length slots)) count (count - 1) e in
                    let kept = made-is ∙ cond-true (ltb count (length slots)) slots _ e in
                    (λ k. drop (at_is k + 1) (set (kept k) (at_is k) x))
                    ∙ drop-set-lt (count + 1) slots count x (omega arith)
                    ∙ drop_more_same slots (replicate limit unused) count (held.rest ∙ sym (drop-replicate count limit unused))
                    ∙ drop-replicate (count + 1) limit unused
                    ∙ ap (λ n. replicate (limit - (n + 1)) unused) (sym at_is)
                | inr e ↦
                    let at_is = is ∙ cond-false (ltb count (length slots)) count (count - 1) e in
                    let full : count ≡ length slots = omega (arith, ltb-false count (length slots) e) in
                    let none : limit - (at + 1) ≡ 0 = omega (arith, held.long) in
                    drop_of_length-le (set made at x) (omega (arith, held.long)) ∙ ap (λ n. replicate n unused) (sym none)
              ];
        }
