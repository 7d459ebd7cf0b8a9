-- A mobile identity that is read out of octets is coded by the same octets.
use Rattle.std.proofs.Common.{◌≡◌, ℕ, ◌+◌, ◌-◌, ◌*◌, ◌/◌, ◌%◌, ◌<◌, ◌≤◌, cond, eqb, ltb, leb, List, [], ◌∷◌, length, get_or, take, drop, Some, sym, refl, ◌∙◌, subst, arith}
use Rattle.std.proofs.lemmas.Bool.{cond_both, cond-true, cond-false, ltb-true, leb-true, eqb-true, eq-eqb, ne_eqb, and_parts}
use Rattle.std.specs.Option.{option_map}
use Rattle.identities.specs.Identities.{imsi_when, imsi_type, imsi_octets, places_of, digits_in, imsi_of}
use Rattle.identities.specs.Marks.{lawful_imsi}
use Rattle.identities.specs.declared.values.Imsi.{Imsi}
use Rattle.frames.specs.LawsValues.{CodesIdentity}
use Rattle.frames.specs.Values.{coded_tmsi, tmsi_value, identity_value}
use Rattle.frames.specs.declared.downlink.MobileIdentity.{MobileIdentity}
use Rattle.frames.specs.declared.downlink.MobileIdentity.TheVariants as identity
use Rattle.vocabulary.proofs.Inversions.{when_some, mapped_some}
use Rattle.frames.proofs.LawsAreas.{halves}
use Rattle.frames.proofs.LawsCodes.{cond_some, codes_tmsi}
use Rattle.frames.proofs.LawsElements.{Octets}

-- the number of octets, and the first of them, by the number of digits
abbrev Told : ℕ → ℕ → ℕ → Type 0
Told a long n = 6 ≤ n → (n / 2 + 1 ≡ long) × (a / 16 * 16 + imsi_type n ≡ a)

told : (a long : ℕ) → Told a long (cond (eqb (a % 16) 9) (2 * long - 1) (cond (eqb (a % 16) 1) (2 * long - 2) 0))
told a long =
    cond_both (eqb (a % 16) 9) _ _ (Told a long)
    (λ nine h.
    let low = eqb-true (a % 16) 9 nine in
    let odd : (2 * long - 1) % 2 ≡ 1 = omega arith in
    let type : imsi_type (2 * long - 1) ≡ 9 = cond-true (eqb ((2 * long - 1) % 2) 1) 9 1 (eq-eqb _ _ odd) in
    (omega arith, omega arith))
    (λ _. cond_both (eqb (a % 16) 1) _ _ (Told a long)
    (λ one h.
    let low = eqb-true (a % 16) 1 one in
    let even : (2 * long - 2) % 2 ≡ 1 → ⊥ = λ odd. omega arith in
    let type : imsi_type (2 * long - 2) ≡ 1 = cond-false (eqb ((2 * long - 2) % 2) 1) 9 1 (ne_eqb _ _ even) in
    (omega arith, omega arith))
    (λ _ h. absurd (omega arith)))

at_most_eight : (v : List ℕ) → length v < 9 → take (length v) (get_or v 0 255 ∷ get_or v 1 255 ∷ get_or v 2 255 ∷ get_or v 3 255 ∷ get_or v 4 255 ∷ get_or v 5 255 ∷ get_or v 6 255 ∷ get_or v 7 255 ∷ []) ≡ v
at_most_eight [] h = refl
at_most_eight (a ∷ []) h = refl
at_most_eight (a ∷ b ∷ []) h = refl
at_most_eight (a ∷ b ∷ c ∷ []) h = refl
at_most_eight (a ∷ b ∷ c ∷ d ∷ []) h = refl
at_most_eight (a ∷ b ∷ c ∷ d ∷ e ∷ []) h = refl
at_most_eight (a ∷ b ∷ c ∷ d ∷ e ∷ f ∷ []) h = refl
at_most_eight (a ∷ b ∷ c ∷ d ∷ e ∷ f ∷ g ∷ []) h = refl
at_most_eight (a ∷ b ∷ c ∷ d ∷ e ∷ f ∷ g ∷ i ∷ []) h = refl
at_most_eight (a ∷ b ∷ c ∷ d ∷ e ∷ f ∷ g ∷ i ∷ j ∷ v) h = absurd (omega arith)

codes_imsi : (v : List ℕ) (i : Imsi) → imsi_of v ≡ Some i → CodesIdentity v (identity.Imsi i)
unfolding imsi_when
codes_imsi v i e =
    let got = cond_some (ltb (length v) 9) (imsi_when (places_of v) (digits_in v)) i e in
    let made = when_some (lawful_imsi (places_of v) (digits_in v)) (λ lawful. record { digits = places_of v; len = digits_in v; lawful = lawful }) i got.1 in
    let least = and_parts (leb 6 (digits_in v)) _ made.0 in
    let parts = told (get_or v 0 255) (length v) (leb-true 6 (digits_in v) least.0) in
    let octet : (k : ℕ) → get_or v k 255 / 16 * 16 + get_or v k 255 % 16 ≡ get_or v k 255 = λ k. halves (get_or v k 255) in
    subst (λ x. v ≡ take (x.len / 2 + 1) (drop 1 (imsi_octets x))) made.1
    (sym ((λ k. take (parts.0 k) (parts.1 k ∷ octet 1 k ∷ octet 2 k ∷ octet 3 k ∷ octet 4 k ∷ octet 5 k ∷ octet 6 k ∷ octet 7 k ∷ []))
    ∙ at_most_eight v (ltb-true _ _ got.0)))

pub codes_identity : (v : List ℕ) → Octets v → (x : MobileIdentity) → identity_value v ≡ Some x → CodesIdentity v x
codes_identity v small x =
    cond_both (coded_tmsi v) (option_map identity.Tmsi (tmsi_value v)) (option_map identity.Imsi (imsi_of v)) (λ o. o ≡ Some x → CodesIdentity v x)
    (λ _ e. let got = mapped_some identity.Tmsi (tmsi_value v) x e in subst (CodesIdentity v) got.2 (codes_tmsi v small got.0 got.1))
    (λ _ e. let got = mapped_some identity.Imsi (imsi_of v) x e in subst (CodesIdentity v) got.2 (codes_imsi v got.0 got.1))
