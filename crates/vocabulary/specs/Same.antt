-- When two places are the same: a test that tells by their codes.
use Rattle.std.specs.Prelude.{ℕ, Bool, None, Option, ◌==◌, refl}
use Rattle.std.specs.Ordering.{on, eq_of_both}
use Rattle.std.specs.Option.{option_eq}
use Rattle.vocabulary.specs.declared.values.Plmn.{Plmn}
use Rattle.vocabulary.specs.declared.values.Lai.{Lai}

-- a network code of two digits is another than one of three
abbrev pub same_third : Option ℕ → Option ℕ → Bool
same_third = option_eq ◌==◌

abbrev pub same_plmn : Plmn → Plmn → Bool
same_plmn =
    eq_of_both (on (λ p. p.mcc1) ◌==◌) (eq_of_both (on (λ p. p.mcc2) ◌==◌) (eq_of_both (on (λ p. p.mcc3) ◌==◌)
    (eq_of_both (on (λ p. p.mnc1) ◌==◌) (eq_of_both (on (λ p. p.mnc2) ◌==◌) (on (λ p. p.mnc3) same_third)))))

abbrev pub same_lai : Lai → Lai → Bool
same_lai = eq_of_both (on (λ a. a.plmn) same_plmn) (on (λ a. a.lac) ◌==◌)

-- what stands in a slot of a list that has no entry
abbrev pub no_plmn : Plmn
no_plmn = record { mcc1 = 0; mcc2 = 0; mcc3 = 0; mnc1 = 0; mnc2 = 0; mnc3 = None; lawful = refl }

abbrev pub no_lai : Lai
no_lai = record { plmn = no_plmn; lac = 0; lawful = refl }
