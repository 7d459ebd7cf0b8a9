-- What is found for a tag is what the first element of that tag codes.
use Rattle.std.proofs.Common.{◌≡◌, ℕ, true, ◌||◌, ◌≢◌, List, [], ◌∷◌, ◌++◌, length, is_some, Some, None, Ok, Option, sym, refl, ◌∙◌, subst, inl, inr, arith}
use Rattle.std.proofs.lemmas.Bool.{false≢true, cases_eq}
use Rattle.std.specs.Option.{option_or}
use Rattle.frames.specs.Elements.{nothing, walk, blame, noted}
use Rattle.frames.specs.Laws.{Part, FromFirst}
use Rattle.frames.specs.Laws.First.{absent, here, later}
use Rattle.frames.specs.Tags.{meaning}
use Rattle.frames.specs.Values.{tmsi_value, identity_value, signature_value, timer_value, plmns_value}
use Rattle.frames.specs.declared.found.Found.{Found}
use Rattle.frames.specs.declared.tags.Known.{Known}
use Rattle.frames.specs.declared.tags.Known.TheVariants.{PTmsiSignature, PTmsi, T3302, Identity, Equivalents, Skipped, BelowTen}
use Rattle.frames.specs.declared.tags.Side.{Side}
use Rattle.frames.proofs.LawsElements.{Octets, blamed, walked}

-- where nothing is blamed, nothing was, and a value was there or is
unblamed : {X : Type 0} (old new : Option X) (bad : Option ℕ) (at : ℕ) → blame old new bad at ≡ None → (bad ≡ None) × ((is_some old || is_some new) ≡ true)
unblamed (Some x) new bad at e = (e, refl)
unblamed None (Some y) bad at e = (e, refl)
unblamed None None bad at e = absurd (blamed bad at e)

bad_kept : (k : Known) (f : Found) (v : List ℕ) (at : ℕ) → (noted k f v at).bad ≡ None → f.bad ≡ None
bad_kept PTmsiSignature f v at e = (unblamed f.signature (signature_value v) f.bad at e).0
bad_kept PTmsi f v at e = (unblamed f.p_tmsi (tmsi_value v) f.bad at e).0
bad_kept T3302 f v at e = (unblamed f.t3302 (timer_value v) f.bad at e).0
bad_kept Identity f v at e = (unblamed f.identity (identity_value v) f.bad at e).0
bad_kept Equivalents f v at e = (unblamed f.equivalents (plmns_value v) f.bad at e).0
bad_kept Skipped f v at e = e
bad_kept BelowTen f v at e = e

-- one tag, where its value is noted, and what the octets of its value mean
module _ {X : Type 0} (side : Side) (tag : ℕ) (Codes : List ℕ → X → Type 0) (pick : Found → Option X) (value : List ℕ → Option X)
    (hit : (f : Found) (v : List ℕ) (at : ℕ) → pick (noted (meaning side tag) f v at) ≡ option_or (pick f) (value v))
    (judge : (f : Found) (v : List ℕ) (at : ℕ) → (noted (meaning side tag) f v at).bad ≡ blame (pick f) (value v) f.bad at)
    (miss : (other : ℕ) (f : Found) (v : List ℕ) (at : ℕ) → other ≢ tag → pick (noted (meaning side other) f v at) ≡ pick f)
    (codes : (v : List ℕ) → Octets v → (x : X) → value v ≡ Some x → Codes v x) where
  -- what was found before stays; else it comes from the octets that are left
  abbrev Kept : Option X → Option X → List ℕ → Type 0
  Kept (Some x) after xs = after ≡ Some x
  Kept None after xs = FromFirst side tag Codes after xs

  kept_end : (o : Option X) → Kept o o []
  kept_end None = absent
  kept_end (Some x) = refl

  kept_later : (before after : Option X) (other : ℕ) (v part rest : List ℕ) → other ≢ tag → Part side other v part → Kept before after rest → Kept before after (other ∷ (part ++ rest))
  kept_later (Some x) after other v part rest ne whole k = k
  kept_later None None other v part rest ne whole k = later ne whole k
  kept_later None (Some x) other v part rest ne whole k = (k.0, later ne whole k.1, k.2)

  kept_here : (before new after : Option X) (v part rest : List ℕ) → value v ≡ new → Octets v → Part side tag v part → (is_some before || is_some new) ≡ true → Kept (option_or before new) after rest → Kept before after (tag ∷ (part ++ rest))
  kept_here (Some x) new after v part rest e octets whole some k = k
  kept_here None None after v part rest e octets whole some k = absurd (false≢true some)
  kept_here None (Some x) after v part rest e octets whole some k =
      subst (λ o. FromFirst side tag Codes o (tag ∷ (part ++ rest))) (sym k) (v, here rest whole, codes v octets x e)

  pub from_first : (g : Found) (at : ℕ) (xs : List ℕ) → pick nothing ≡ None → Octets xs → g.bad ≡ None → walk side nothing at xs 0 ≡ Ok g → FromFirst side tag Codes (pick g) xs
  from_first g at xs fresh octets clean e =
      let P : Found → List ℕ → Type 0 = λ f ys. (f.bad ≡ None) × Kept (pick f) (pick g) ys in
      let all =
      walked side g P (clean, kept_end (pick g))
      (λ other at f v part rest whole small after. elim (cases_eq other tag) [
        | inl same ↦
            subst (λ t. Part side t v part → P (noted (meaning side t) f v at) rest → P f (t ∷ (part ++ rest))) (sym same)
            (λ own left.
            let told = unblamed (pick f) (value v) f.bad at (sym (judge f v at) ∙ left.0) in
            (told.0, kept_here (pick f) (value v) (pick g) v part rest refl small own told.1 (subst (λ o. Kept o (pick g) rest) (hit f v at) left.1)))
            whole after
        | inr ne ↦ (
          bad_kept (meaning side other) f v at after.0,
          kept_later (pick f) (pick g) other v part rest ne whole (subst (λ o. Kept o (pick g) rest) (miss other f v at ne) after.1),
        )
      ])
      (length xs) nothing at xs (omega arith) octets e in
      subst (λ o. Kept o (pick g) xs) fresh all.1
