-- A frame that is read to its end has only whole elements, and none with a tag below 10.
use Rattle.std.proofs.Common.{◌≡◌, ℕ, zero, suc, ◌+◌, ◌-◌, ◌<◌, ◌≤◌, ◌||◌, eqb, ltb, leb, List, [], ◌∷◌, ◌++◌, length, get_or, take, drop, Some, None, Ok, Err, Option, sym, ◌∙◌, subst, inl, inr, arith, length-drop}
use Rattle.std.proofs.lemmas.List.{take-append-drop, length-take, length-take-le, get_or-take, get_or-drop, get_or_past}
use Rattle.std.proofs.lemmas.Bool.{cases_Bool, cond-true, cond-false, cond_both, leb-true, leb-false, eqb-true, eqb-false, ltb-true, ltb-false, or_cases, or_parts, cases_lt}
use Rattle.std.specs.Option.{option_or}
use Rattle.frames.specs.Elements.{nothing, walk, noted}
use Rattle.frames.specs.Laws.{Unlengthed, Part, Elements}
use Rattle.frames.specs.Laws.Part.{alone, signature, ready_timer, gmm_cause, lengthed}
use Rattle.frames.specs.Laws.Elements.{none, more}
use Rattle.frames.specs.Tags.{layout_of, begin, end, value_in, meaning}
use Rattle.frames.specs.declared.faults.ElementFault.TheVariants.{Cut}
use Rattle.frames.specs.declared.found.Found.{Found}
use Rattle.frames.specs.declared.tags.Known.{Known}
use Rattle.frames.specs.declared.tags.Known.TheVariants.{PTmsiSignature, PTmsi, T3302, Identity, Equivalents, Skipped, BelowTen}
use Rattle.frames.specs.declared.tags.Layout.{Layout}
use Rattle.frames.specs.declared.tags.Layout.TheVariants.{Fixed, Lengthed}
use Rattle.frames.specs.declared.tags.Side.{Side}
use Rattle.frames.specs.declared.tags.Side.TheVariants.{Packet, Circuit}
use Rattle.frames.proofs.Walks.{walk_past}

abbrev Whole : Side → ℕ → List ℕ → Layout → Type 0
Whole side tag ys how = end how ys ≤ length ys → Part side tag (value_in how ys) (take (end how ys) ys)

three : (ys : List ℕ) → Whole Packet 0x19 ys (Fixed 3)
three [] h = absurd (omega arith)
three (a ∷ []) h = absurd (omega arith)
three (a ∷ b ∷ []) h = absurd (omega arith)
three (a ∷ b ∷ c ∷ ys) h = signature a b c

timer : (ys : List ℕ) → Whole Packet 0x17 ys (Fixed 1)
timer [] h = absurd (omega arith)
timer (a ∷ ys) h = ready_timer a

cause : (ys : List ℕ) → Whole Packet 0x25 ys (Fixed 1)
cause [] h = absurd (omega arith)
cause (a ∷ ys) h = gmm_cause a

valued : (side : Side) (tag : ℕ) (ys : List ℕ) → tag < 0x80 → (Unlengthed side tag → ⊥) → Whole side tag ys Lengthed
valued side tag [] low other h = absurd (omega arith)
valued side tag (n ∷ ys) low other h =
    let within : n ≤ length ys = omega arith in
    let part = lengthed {side = side} {tag = tag} low other (take n ys) in
    let one : 1 + n ≡ suc n = omega arith in
    let inside : 1 + n - 1 ≡ n = omega arith in
    subst (λ k. Part side tag (take (1 + n - 1) ys) (take k (n ∷ ys))) (sym one)
    (subst (λ k. Part side tag (take k ys) (n ∷ take n ys)) (sym inside)
    (subst (λ k. Part side tag (take n ys) (k ∷ take n ys)) (length-take-le n ys within) part))

part_whole : (side : Side) (tag : ℕ) (ys : List ℕ) → Whole side tag ys (layout_of side tag)
part_whole Packet tag ys =
    cond_both (leb 0x80 tag) _ _ (Whole Packet tag ys) (λ high h. alone (leb-true _ _ high))
    (λ low. cond_both (eqb tag 0x19) _ _ (Whole Packet tag ys)
    (λ is. subst (λ t. Whole Packet t ys (Fixed 3)) (sym (eqb-true _ _ is)) (three ys))
    (λ not_signature. cond_both (eqb tag 0x17 || eqb tag 0x25) _ _ (Whole Packet tag ys)
    (λ is. elim (or_cases _ _ is) [
      | inl t ↦ subst (λ t. Whole Packet t ys (Fixed 1)) (sym (eqb-true _ _ t)) (timer ys)
      | inr t ↦ subst (λ t. Whole Packet t ys (Fixed 1)) (sym (eqb-true _ _ t)) (cause ys)
    ])
    (λ other. let parts = or_parts _ _ other in
    valued Packet tag ys (leb-false _ _ low) (elim [
      | inl t ↦ eqb-false _ _ not_signature t
      | inr (inl t) ↦ eqb-false _ _ parts.0 t
      | inr (inr t) ↦ eqb-false _ _ parts.1 t
    ]))))
part_whole Circuit tag ys =
    cond_both (leb 0x80 tag) _ _ (Whole Circuit tag ys) (λ high h. alone (leb-true _ _ high))
    (λ low. valued Circuit tag ys (leb-false _ _ low) (λ never. never))

-- what holds of each meaning that a tag may have
pub meant : (side : Side) (tag : ℕ) (P : Known → Type 0) → (tag ≡ 0x19 → P PTmsiSignature) → (tag ≡ 0x18 → P PTmsi) → (tag ≡ 0x2a → P T3302) → (tag ≡ 0x17 → P Identity) → (tag ≡ 0x4a → P Equivalents) → (tag < 0x10 → P BelowTen) → (0x10 ≤ tag → P Skipped) → P (meaning side tag)
meant Packet tag P signed p_tmsi timed named listed low skipped =
    cond_both (eqb tag 0x19) _ _ P (λ e. signed (eqb-true _ _ e))
    (λ _. cond_both (eqb tag 0x18) _ _ P (λ e. p_tmsi (eqb-true _ _ e))
    (λ _. cond_both (eqb tag 0x2a) _ _ P (λ e. timed (eqb-true _ _ e))
    (λ _. cond_both (eqb tag 0x4a) _ _ P (λ e. listed (eqb-true _ _ e))
    (λ _. cond_both (ltb tag 0x10) _ _ P (λ e. low (ltb-true _ _ e)) (λ e. skipped (ltb-false _ _ e))))))
meant Circuit tag P signed p_tmsi timed named listed low skipped =
    cond_both (eqb tag 0x17) _ _ P (λ e. named (eqb-true _ _ e))
    (λ _. cond_both (eqb tag 0x4a) _ _ P (λ e. listed (eqb-true _ _ e))
    (λ _. cond_both (ltb tag 0x10) _ _ P (λ e. low (ltb-true _ _ e)) (λ e. skipped (ltb-false _ _ e))))

-- octets, each below 256
abbrev pub Octets : List ℕ → Type 0
Octets xs = (i : ℕ) → get_or xs i 0 < 256

octets_take : (n : ℕ) (xs : List ℕ) → Octets xs → Octets (take n xs)
octets_take n xs small i =
    elim (cases_lt i n) [
      | inl before ↦ omega (arith, get_or-take n xs i 0 before, small i)
      | inr past ↦ omega (arith, get_or_past (take n xs) i 0 (omega (arith, length-take n xs)))
    ]

pub octets_drop : (n : ℕ) (xs : List ℕ) → Octets xs → Octets (drop n xs)
octets_drop n xs small i = omega (arith, get_or-drop n xs i 0, small (n + i))

octets_value : (how : Layout) (ys : List ℕ) → Octets ys → Octets (value_in how ys)
octets_value how ys small = octets_take (end how ys - begin how) (drop (begin how) ys) (octets_drop (begin how) ys small)

-- what holds at the end, and before each element where it holds after it, holds from the first element on
module _ (side : Side) (g : Found) (P : Found → List ℕ → Type 0) (done : P g [])
    (step : (tag at : ℕ) (f : Found) (value part rest : List ℕ) → Part side tag value part → Octets value → P (noted (meaning side tag) f value at) rest → P f (tag ∷ (part ++ rest))) where
  pub walked : (n : ℕ) (f : Found) (at : ℕ) (xs : List ℕ) → length xs ≤ n → Octets xs → walk side f at xs 0 ≡ Ok g → P f xs
  unfolding walk
  walked n f at [] small octets e = let same : g ≡ f = cc in subst (λ x. P x []) same done
  walked zero f at (tag ∷ ys) small octets e = absurd (omega arith)
  walked (suc n) f at (tag ∷ ys) small octets e =
      let past = end (layout_of side tag) ys in
      let value = value_in (layout_of side tag) ys in
      let found = noted (meaning side tag) f value at in
      elim (cases_Bool (ltb (length ys) past)) [
        | inl cut ↦
            let clash : Err (Cut (at + length ys + 1)) ≡ Ok g = sym (cond-true (ltb (length ys) past) _ _ cut) ∙ e in
            cc
        | inr fits ↦
            let within = ltb-false _ _ fits in
            let rest = sym (walk_past side found (at + 1) ys past within) ∙ (sym (cond-false (ltb (length ys) past) _ _ fits) ∙ e) in
            let left : length (drop past ys) ≤ n = omega (arith, length-drop past ys) in
            let after : Octets ys = λ i. octets (suc i) in
            subst (λ zs. P f (tag ∷ zs)) (take-append-drop past ys)
            (step tag at f value (take past ys) (drop past ys) (part_whole side tag ys within)
            (octets_value (layout_of side tag) ys after)
            (walked n found (at + 1 + past) (drop past ys) left (octets_drop past ys after) rest))
      ]

-- an octet that is noted is not forgotten
pub blamed : (old : Option ℕ) (at : ℕ) → option_or old (Some at) ≡ None → ⊥
blamed None at e = cc
blamed (Some x) at e = cc

pub whole_elements : (side : Side) (g : Found) (at : ℕ) (xs : List ℕ) → Octets xs → g.low ≡ None → walk side nothing at xs 0 ≡ Ok g → Elements side xs
whole_elements side g at xs octets clean e =
    (walked side g (λ f ys. Elements side ys × (f.low ≡ None)) (none, clean)
    (λ tag at f value part rest whole _ after.
    let kept : (0x10 ≤ tag) × (f.low ≡ None) =
    meant side tag (λ k. (noted k f value at).low ≡ None → (0x10 ≤ tag) × (f.low ≡ None))
    (λ t l. (omega arith, l)) (λ t l. (omega arith, l)) (λ t l. (omega arith, l)) (λ t l. (omega arith, l)) (λ t l. (omega arith, l))
    (λ t l. absurd (blamed f.low at l)) (λ t l. (t, l)) after.1 in
    (more kept.0 whole after.0, kept.1))
    (length xs) nothing at xs (omega arith) octets e).0
