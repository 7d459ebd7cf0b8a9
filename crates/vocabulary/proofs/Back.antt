-- What is written of a place reads back.
use Rattle.std.proofs.Common.{◌≡◌, ℕ, ◌+◌, ◌*◌, ◌/◌, ◌%◌, ◌<◌, true, Some, None, Option, sym, refl, ap, ◌∙◌, subst, arith}
use Rattle.std.proofs.lemmas.Nat.{div-mul-add, mod-mul-add}
use Rattle.std.proofs.lemmas.Bool.Decides.{nat_tests}
use Rattle.vocabulary.specs.Made.{then}
use Rattle.vocabulary.specs.Marks.{lawful_plmn}
use Rattle.vocabulary.specs.Places.{plmn_when, lai_when, plmn_of, lai_of, third_half, third_of}
use Rattle.vocabulary.specs.declared.values.Plmn.{Plmn}
use Rattle.vocabulary.specs.declared.values.Lai.{Lai}
use Rattle.vocabulary.specs.Told.{plmn_made, lai_made}

low_halves : (p : Plmn) → (p.mcc1 < 16) × (p.mcc3 < 16) × (p.mnc1 < 16)
low_halves p = let h = p.lawful in (grind (arith, nat_tests), grind (arith, nat_tests), grind (arith, nat_tests))

third_back : (p : Plmn) (f : Option ℕ) → p.mnc3 ≡ f → third_of (third_half f) ≡ f
third_back p None e = refl
third_back p (Some n) e =
    let h = subst (λ f. lawful_plmn p.mcc1 p.mcc2 p.mcc3 p.mnc1 p.mnc2 f ≡ true) e p.lawful in
    grind (arith, nat_tests)

pub plmn_back : (p : Plmn) → plmn_of (p.mcc2 * 16 + p.mcc1) (third_half p.mnc3 * 16 + p.mcc3) (p.mnc2 * 16 + p.mnc1) ≡ Some p
plmn_back p =
    let low = low_halves p in
    (λ k. plmn_when (mod-mul-add p.mcc2 16 p.mcc1 low.0 k) (div-mul-add p.mcc2 16 p.mcc1 low.0 k)
    (mod-mul-add (third_half p.mnc3) 16 p.mcc3 low.1 k)
    (mod-mul-add p.mnc2 16 p.mnc1 low.2 k) (div-mul-add p.mnc2 16 p.mnc1 low.2 k)
    (third_of (div-mul-add (third_half p.mnc3) 16 p.mcc3 low.1 k)))
    ∙ ap (λ f. plmn_when p.mcc1 p.mcc2 p.mcc3 p.mnc1 p.mnc2 f) (third_back p p.mnc3 refl)
    ∙ sym (plmn_made p)

-- a number of 16 bits is what its octets make
sixteen_bits : (n : ℕ) → n < 65536 → n / 256 % 256 * 256 + n % 256 ≡ n
sixteen_bits n h = omega arith

pub no_lai_back : lai_of 0xff 0xff 0xff 0xff 0xfe ≡ None
unfolding plmn_when
no_lai_back = refl

pub lai_back : (a : Lai) → a.lac < 65536
    → lai_of (a.plmn.mcc2 * 16 + a.plmn.mcc1) (third_half a.plmn.mnc3 * 16 + a.plmn.mcc3)
    (a.plmn.mnc2 * 16 + a.plmn.mnc1) (a.lac / 256 % 256) (a.lac % 256) ≡ Some a
lai_back a small =
    ap (λ p. then p (λ q. lai_when q (a.lac / 256 % 256 * 256 + a.lac % 256))) (plmn_back a.plmn)
    ∙ ap (lai_when a.plmn) (sixteen_bits a.lac small)
    ∙ sym (lai_made a)
