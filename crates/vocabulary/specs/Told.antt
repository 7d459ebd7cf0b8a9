-- The tests on places tell exactly whether two are the same.
use Rattle.std.specs.Prelude.{◌≡◌, ℕ, Some, None, Decides, Option}
use Rattle.std.proofs.Common.{eqb, sym, refl, ap, ◌∙◌}
use Rattle.std.proofs.lemmas.Bool.Decides.{Decides-eqb, Decides-and, Decides-like}
use Rattle.std.proofs.lemmas.Bool.{false≢true}
use Rattle.vocabulary.specs.Made.{some_when}
use Rattle.vocabulary.specs.Places.{plmn_when, lai_when}
use Rattle.vocabulary.specs.Same.{same_third, same_plmn, same_lai}
use Rattle.vocabulary.specs.declared.values.Plmn.{Plmn}
use Rattle.vocabulary.specs.declared.values.Lai.{Lai}

-- a place is what its own codes make
pub plmn_made : (p : Plmn) → Some p ≡ plmn_when p.mcc1 p.mcc2 p.mcc3 p.mnc1 p.mnc2 p.mnc3
unfolding plmn_when
plmn_made p = some_when _ (λ lawful. record { mcc1 = p.mcc1; mcc2 = p.mcc2; mcc3 = p.mcc3; mnc1 = p.mnc1; mnc2 = p.mnc2; mnc3 = p.mnc3; lawful = lawful }) p.lawful

pub lai_made : (a : Lai) → Some a ≡ lai_when a.plmn a.lac
unfolding lai_when
lai_made a = some_when _ (λ lawful. record { plmn = a.plmn; lac = a.lac; lawful = lawful }) a.lawful

some_same : {X : Type 0} (x y : X) → Some x ≡ Some y → x ≡ y
some_same x y e = cc

pub same_digits : (p q : Plmn)
    → (p.mcc1 ≡ q.mcc1) × (p.mcc2 ≡ q.mcc2) × (p.mcc3 ≡ q.mcc3) × (p.mnc1 ≡ q.mnc1) × (p.mnc2 ≡ q.mnc2) × (p.mnc3 ≡ q.mnc3)
    → p ≡ q
same_digits p q e =
    some_same p q (plmn_made p ∙ (λ k. plmn_when (e.0 k) (e.1 k) (e.2 k) (e.3 k) (e.4 k) (e.5 k)) ∙ sym (plmn_made q))

pub same_codes : (a b : Lai) → (a.plmn ≡ b.plmn) × (a.lac ≡ b.lac) → a ≡ b
same_codes a b e = some_same a b (lai_made a ∙ (λ k. lai_when (e.0 k) (e.1 k)) ∙ sym (lai_made b))

third_told : (m n : Option ℕ) → Decides (same_third m n) (m ≡ n)
third_told None None = (λ _. refl, λ _. refl)
third_told None (Some n) = (λ e. absurd (false≢true e), λ e. cc)
third_told (Some m) None = (λ e. absurd (false≢true e), λ e. cc)
third_told (Some m) (Some n) = Decides-like (eqb m n) (ap Some) (some_same m n) (Decides-eqb m n)

pub plmn_told : (p q : Plmn) → Decides (same_plmn p q) (p ≡ q)
plmn_told p q =
    Decides-like (same_plmn p q)
    (λ e. same_digits p q (e.0, e.1.0, e.1.1.0, e.1.1.1.0, e.1.1.1.1.0, e.1.1.1.1.1))
    (λ e. (ap (λ x. x.mcc1) e, (ap (λ x. x.mcc2) e, (ap (λ x. x.mcc3) e, (ap (λ x. x.mnc1) e, (ap (λ x. x.mnc2) e, ap (λ x. x.mnc3) e))))))
    (Decides-and (eqb p.mcc1 q.mcc1) _ (Decides-eqb p.mcc1 q.mcc1)
    (Decides-and (eqb p.mcc2 q.mcc2) _ (Decides-eqb p.mcc2 q.mcc2)
    (Decides-and (eqb p.mcc3 q.mcc3) _ (Decides-eqb p.mcc3 q.mcc3)
    (Decides-and (eqb p.mnc1 q.mnc1) _ (Decides-eqb p.mnc1 q.mnc1)
    (Decides-and (eqb p.mnc2 q.mnc2) _ (Decides-eqb p.mnc2 q.mnc2) (third_told p.mnc3 q.mnc3))))))

pub lai_told : (a b : Lai) → Decides (same_lai a b) (a ≡ b)
lai_told a b =
    Decides-like (same_lai a b) (same_codes a b) (λ e. (ap (λ x. x.plmn) e, ap (λ x. x.lac) e))
    (Decides-and (same_plmn a.plmn b.plmn) _ (plmn_told a.plmn b.plmn) (Decides-eqb a.lac b.lac))
