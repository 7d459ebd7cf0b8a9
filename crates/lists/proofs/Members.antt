-- What the tests on a list tell: that an entry is there, and that none stands twice.
use Rattle.std.proofs.Common.{◌≡◌, zero, suc, ◌<◌, Bool, true, false, not, List, [], ◌∷◌, length, Decides, sym, refl, ap, ◌||◌, ◌∙◌, inl, inr, arith}
use Rattle.std.specs.List.{list_any, ContainsAt as Has}
use Rattle.std.proofs.lemmas.List.{get_or_default}
use Rattle.std.proofs.lemmas.Bool.{not-true, not_from_false, and_parts, and_from, cases_Bool}
use Rattle.std.proofs.lemmas.Bool.Decides.{Decides-by_or, not_from_Decides}
use Rattle.lists.specs.Lists.{member, distinct}
use Rattle.lists.specs.Laws.{Once}

-- the answer of `contains` is that of the test
pub member_from_any : {X : Type 0} (E : X → X → Bool) (x : X) (xs : List X) → list_any (λ y. E y x) xs ≡ member E x xs
member_from_any E x [] = refl
member_from_any E x (y ∷ ys) = ap (λ b. E y x || b) (member_from_any E x ys)

module _ {X : Type 0} (same : X → X → Bool) (decides : (x y : X) → Decides (same x y) (x ≡ y)) where
  pub member_decides : (x : X) (xs : List X) → Decides (member same x xs) (Has xs x)
  member_decides x xs = Decides-by_or (λ y. same y x) (λ y. y ≡ x) (member same x) (λ y. decides y x) refl (λ _ _. refl) xs

  pub member_not : (x : X) (xs : List X) → (Has xs x → ⊥) → member same x xs ≡ false
  member_not x xs none = elim (cases_Bool (member same x xs)) [ inl e ↦ absurd (none ((member_decides x xs).0 e)) | inr e ↦ e ]

  pub once_from_distinct : (xs : List X) → distinct same xs ≡ true → Once xs
  once_from_distinct [] h i j d below within e = omega arith
  once_from_distinct (x ∷ xs) h i zero d below within e = omega arith
  once_from_distinct (x ∷ xs) h zero (suc j) d below within e =
      let in' : j < length xs = omega arith in
      not_from_Decides (member same x xs) (member_decides x xs) (not-true _ (and_parts (not (member same x xs)) _ h).0)
      (j, in', λ f. get_or_default xs j f d in' ∙ sym e)
  once_from_distinct (x ∷ xs) h (suc i) (suc j) d below within e =
      once_from_distinct xs (and_parts (not (member same x xs)) _ h).1 i j d (omega arith) (omega arith) e

  pub distinct_from_once : (xs : List X) → Once xs → distinct same xs ≡ true
  distinct_from_once [] once = refl
  distinct_from_once (x ∷ xs) once =
      and_from (not (member same x xs)) _
      (not_from_false _ (member_not x xs (λ h. once 0 (suc h.0) x (omega arith) (omega (arith, h.1)) (sym (h.2 x)))))
      (distinct_from_once xs (λ i j d below within e. once (suc i) (suc j) d (omega arith) (omega arith) e))
