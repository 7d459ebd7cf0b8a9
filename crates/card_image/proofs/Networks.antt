-- The four places of the list in an image, taken one after the other.
use Rattle.std.proofs.Common.{◌≡◌, ℕ, ◌+◌, ◌<◌, ◌≤◌, List, [], ◌∷◌, length, get_or, drop, None, Option, sym, refl, ap, ◌∙◌, arith}
use Rattle.std.proofs.lemmas.List.{drop_all, drop_more}
use Rattle.vocabulary.specs.declared.values.Plmn.{Plmn}
use Rattle.card_image.specs.Meaning.{added_some}

-- a list to which the places are added in their order
abbrev pub adding : List Plmn → List (Option Plmn) → List Plmn
adding ps [] = ps
adding ps (o ∷ os) = adding (added_some ps o) os

pub four_added : (os : List (Option Plmn)) → length os ≡ 4
    → adding [] os ≡ added_some (added_some (added_some (added_some [] (get_or os 0 None)) (get_or os 1 None)) (get_or os 2 None)) (get_or os 3 None)
four_added [] h = absurd (omega arith)
four_added (a ∷ []) h = absurd (omega arith)
four_added (a ∷ b ∷ []) h = absurd (omega arith)
four_added (a ∷ b ∷ c ∷ []) h = absurd (omega arith)
four_added (a ∷ b ∷ c ∷ d ∷ []) h = refl
four_added (a ∷ b ∷ c ∷ d ∷ e ∷ os) h = absurd (omega arith)

pub adding_more : (ps qs whole : List Plmn) (os : List (Option Plmn)) (i : ℕ) (o : Option Plmn) → i < length os → o ≡ get_or os i o
    → qs ≡ added_some ps o → adding ps (drop i os) ≡ whole → adding qs (drop (i + 1) os) ≡ whole
adding_more ps qs whole os i o within read is left =
    ap (λ l. adding l (drop (i + 1) os)) is
    ∙ ap (λ p. adding (added_some ps p) (drop (i + 1) os)) read
    ∙ ap (adding ps) (sym (drop_more os i o within)) ∙ left

pub adding_done : (ps whole : List Plmn) (os : List (Option Plmn)) (i : ℕ) → length os ≤ i → adding ps (drop i os) ≡ whole → ps ≡ whole
adding_done ps whole os i past left = ap (adding ps) (sym (drop_all i os past)) ∙ left
