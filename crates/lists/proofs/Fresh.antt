-- Entries that are new to a list with room for them.
use Rattle.std.proofs.Common.{◌≡◌, ℕ, ◌+◌, ◌-◌, ◌<◌, Bool, true, false, not, List, [], ◌∷◌, ◌++◌, length, drop, Decides, sym, refl, ap, ◌∙◌, subst, inl, inr, arith}
use Rattle.std.specs.List.{ContainsAt as Has}
use Rattle.std.proofs.ByRecursion.{has_append_right}
use Rattle.std.proofs.lemmas.Bool.{and_parts, both_ways, cases_Bool, not-true, or_from}
use Rattle.lists.specs.Lists.{member, distinct, added}
use Rattle.lists.proofs.Additions.{added_newest}
use Rattle.lists.proofs.Members.{member_decides}

module _ {X : Type 0} (same : X → X → Bool) (decides : (x y : X) → Decides (same x y) (x ≡ y)) where
  -- an entry that has others before it is none of them
  pub fresh : (front back : List X) (x : X) → distinct same (front ++ x ∷ back) ≡ true → member same x front ≡ false
  fresh [] back x h = refl
  fresh (y ∷ front) back x h =
      let parts = and_parts (not (member same y (front ++ x ∷ back))) _ h in
      let behind : Has (front ++ x ∷ back) x = has_append_right front (x ∷ back) x (0, omega arith, λ d. refl) in
      let apart : same y x ≡ false =
      elim (cases_Bool (same y x)) [
        | inl e ↦ absurd (both_ways (member same y (front ++ x ∷ back)) (not-true _ parts.0)
            ((member_decides same decides y (front ++ x ∷ back)).1 (subst (Has (front ++ x ∷ back)) (sym ((decides y x).0 e)) behind)))
        | inr e ↦ e
      ] in
      or_from (same y x) (member same x front) apart (fresh front back x parts.1)

  -- a new entry comes last where there is room
  pub added_last : (limit : ℕ) (xs : List X) (x : X) → member same x xs ≡ false → length xs < limit → added same limit xs x ≡ xs ++ x ∷ []
  added_last limit xs x new room =
      let none : length xs + 1 - limit ≡ 0 = omega arith in
      added_newest same limit xs x new ∙ ap (λ n. drop n (xs ++ x ∷ [])) none
