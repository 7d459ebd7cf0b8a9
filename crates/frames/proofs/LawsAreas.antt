-- An area that is read out of octets is written as the same octets.
use Rattle.std.proofs.Common.{◌≡◌, ℕ, zero, suc, ◌+◌, ◌*◌, ◌/◌, ◌%◌, ◌<◌, ◌≤◌, eqb, List, [], ◌∷◌, ◌++◌, length, get_or, take, drop, Some, None, sym, refl, ap, ◌∙◌, arith}
use Rattle.std.proofs.lemmas.List.{drop_more}
use Rattle.std.proofs.lemmas.Bool.{cond_both, eqb-true}
use Rattle.vocabulary.specs.Marks.{lawful_plmn, lawful_lac}
use Rattle.vocabulary.specs.Places.{third_half, third_of, plmn_octets, lai_octets, rai_octets, plmn_when, lai_when, plmn_of, lai_of, rai_of, rai_in, lai_in}
use Rattle.vocabulary.specs.declared.values.Lai.{Lai}
use Rattle.vocabulary.specs.declared.values.Plmn.{Plmn}
use Rattle.vocabulary.specs.declared.values.Rai.{Rai}
use Rattle.vocabulary.proofs.Inversions.{when_some, then_some, mapped_some}

-- n octets from place k on
abbrev pub from : ℕ → ℕ → List ℕ → List ℕ
from zero k xs = []
from (suc n) k xs = get_or xs k 0 ∷ from n (k + 1) xs

pub take_from : (n k : ℕ) (xs : List ℕ) → k + n ≤ length xs → take n (drop k xs) ≡ from n k xs
take_from zero k xs h = refl
take_from (suc n) k xs h =
    ap (take (suc n)) (drop_more xs k 0 (omega arith)) ∙ ap (λ ys. get_or xs k 0 ∷ ys) (take_from n (k + 1) xs (omega arith))

pub halves : (n : ℕ) → n / 16 * 16 + n % 16 ≡ n
halves n = omega arith

third : (n : ℕ) → third_half (third_of n) ≡ n
third n = cond_both (eqb n 15) None (Some n) (λ o. third_half o ≡ n) (λ e. sym (eqb-true n 15 e)) (λ _. refl)

pub plmn_stands : (a b c : ℕ) (p : Plmn) → plmn_of a b c ≡ Some p → plmn_octets p ≡ a ∷ b ∷ c ∷ []
unfolding plmn_when
plmn_stands a b c p e =
    let got =
    when_some (lawful_plmn (a % 16) (a / 16) (b % 16) (c % 16) (c / 16) (third_of (b / 16)))
    (λ lawful. record { mcc1 = a % 16; mcc2 = a / 16; mcc3 = b % 16; mnc1 = c % 16; mnc2 = c / 16; mnc3 = third_of (b / 16); lawful = lawful }) p e in
    let middle : third_half (third_of (b / 16)) * 16 + b % 16 ≡ b = omega (arith, third (b / 16)) in
    ap plmn_octets (sym got.1) ∙ (λ k. halves a k ∷ middle k ∷ halves c k ∷ [])

made_lai : (p : Plmn) (n : ℕ) (l : Lai) → lai_when p n ≡ Some l → lai_octets (Some l) ≡ plmn_octets p ++ (n / 256 % 256) ∷ (n % 256) ∷ []
unfolding lai_when
made_lai p n l e =
    let got = when_some (lawful_lac n) (λ lawful. record { plmn = p; lac = n; lawful = lawful }) l e in
    ap (λ x. lai_octets (Some x)) (sym got.1)

five : (a b c d e : ℕ) (l : Lai) → d < 256 → e < 256 → lai_of a b c d e ≡ Some l → lai_octets (Some l) ≡ a ∷ b ∷ c ∷ d ∷ e ∷ []
five a b c d e l high low is =
    let got = then_some (plmn_of a b c) (λ p. lai_when p (d * 256 + e)) l is in
    let fourth : (d * 256 + e) / 256 % 256 ≡ d = omega arith in
    let fifth : (d * 256 + e) % 256 ≡ e = omega arith in
    made_lai got.0 (d * 256 + e) l got.2 ∙ (λ k. plmn_stands a b c got.0 got.1 k ++ fourth k ∷ fifth k ∷ [])

six : (a b c d e f : ℕ) (r : Rai) → d < 256 → e < 256 → rai_of a b c d e f ≡ Some r → rai_octets (Some r) ≡ a ∷ b ∷ c ∷ d ∷ e ∷ f ∷ []
six a b c d e f r high low is =
    let got = mapped_some (λ (l : Lai). record { lai = l; rac = f }) (lai_of a b c d e) r is in
    ap (λ x. rai_octets (Some x)) (sym got.2) ∙ ap (λ ys. ys ++ f ∷ []) (five a b c d e got.0 high low got.1)

module _ (k : ℕ) (xs : List ℕ) (octets : (i : ℕ) → get_or xs i 0 < 256) where
  pub lai_stands : (a : Lai) → k + 5 ≤ length xs → lai_in (from 5 k xs) ≡ Some a → lai_octets (Some a) ≡ take 5 (drop k xs)
  lai_stands a long e = five _ _ _ _ _ a (octets (k + 1 + 1 + 1)) (octets (k + 1 + 1 + 1 + 1)) e ∙ sym (take_from 5 k xs long)

  pub rai_stands : (a : Rai) → k + 6 ≤ length xs → rai_in (from 6 k xs) ≡ Some a → rai_octets (Some a) ≡ take 6 (drop k xs)
  rai_stands a long e = six _ _ _ _ _ _ a (octets (k + 1 + 1 + 1)) (octets (k + 1 + 1 + 1 + 1)) e ∙ sym (take_from 6 k xs long)
