-- The walk over the elements, an element at a time.
use Rattle.std.proofs.Common.{◌≡◌, ℕ, zero, suc, ◌+◌, ◌<◌, ◌≤◌, ltb, List, [], ◌∷◌, length, get_or, drop, Ok, Err, sym, refl, ap, ◌∙◌, add-zero, arith}
use Rattle.std.proofs.lemmas.Bool.{cond-true, cond-false, lt-ltb, le-ltb}
use Rattle.frames.specs.Elements.{walk, noted}
use Rattle.frames.specs.Tags.{layout_of, end, value_in, meaning}
use Rattle.frames.specs.declared.faults.ElementFault.TheVariants.{Cut}
use Rattle.frames.specs.declared.found.Found.{Found}
use Rattle.frames.specs.declared.tags.Side.{Side}

-- octets that belong to the element before are passed over
pub walk_past : (side : Side) (f : Found) (at : ℕ) (xs : List ℕ) (skip : ℕ) → skip ≤ length xs → walk side f at xs skip ≡ walk side f (at + skip) (drop skip xs) 0
unfolding walk
walk_past side f at xs zero h = ap (λ n. walk side f n xs 0) (sym (add-zero at))
walk_past side f at [] (suc skip) h = absurd (omega arith)
walk_past side f at (x ∷ xs) (suc skip) h =
    let more : skip ≤ length xs = omega arith in
    let place : at + 1 + skip ≡ at + suc skip = omega arith in
    walk_past side f (at + 1) xs skip more ∙ ap (λ n. walk side f n (drop skip xs) 0) place

-- a frame that ends inside its next element
pub walk_cut : (side : Side) (f : Found) (at : ℕ) (xs after : List ℕ) (to : ℕ) → 0 < length xs → after ≡ drop 1 xs → to ≡ end (layout_of side (get_or xs 0 0)) after → length after < to → Err (Cut (at + length after + 1)) ≡ walk side f at xs 0
unfolding walk
walk_cut side f at [] after to some e t lt = absurd (omega arith)
walk_cut side f at (tag ∷ ys) after to some e t lt =
    let past : length ys < end (layout_of side tag) ys = omega (arith, ap length e, t ∙ ap (end (layout_of side tag)) e) in
    ap (λ zs. Err (Cut (at + length zs + 1))) e ∙ sym (cond-true (ltb (length ys) (end (layout_of side tag) ys)) _ _ (lt-ltb _ _ past))

-- one element more
pub walk_more : (side : Side) (f g : Found) (at : ℕ) (xs after : List ℕ) (to : ℕ) → 0 < length xs → after ≡ drop 1 xs → to ≡ end (layout_of side (get_or xs 0 0)) after → to ≤ length after → g ≡ noted (meaning side (get_or xs 0 0)) f (value_in (layout_of side (get_or xs 0 0)) after) at → walk side g (at + 1 + to) (drop to after) 0 ≡ walk side f at xs 0
unfolding walk
walk_more side f g at [] after to some e t le n = absurd (omega arith)
walk_more side f g at (tag ∷ ys) after to some e t le n =
    let same = t ∙ ap (end (layout_of side tag)) e in
    let within : end (layout_of side tag) ys ≤ length ys = omega (arith, ap length e, same) in
    let found : g ≡ noted (meaning side tag) f (value_in (layout_of side tag) ys) at = n ∙ ap (λ zs. noted (meaning side tag) f (value_in (layout_of side tag) zs) at) e in
    (λ k. walk side (found k) (at + 1 + same k) (drop (same k) (e k)) 0)
    ∙ sym (walk_past side _ (at + 1) ys (end (layout_of side tag) ys) within)
    ∙ sym (cond-false (ltb (length ys) (end (layout_of side tag) ys)) _ _ (le-ltb _ _ within))

pub walk_done : (side : Side) (f : Found) (at : ℕ) (xs : List ℕ) → length xs ≡ 0 → Ok f ≡ walk side f at xs 0
unfolding walk
walk_done side f at [] h = refl
walk_done side f at (x ∷ xs) h = absurd (omega arith)
