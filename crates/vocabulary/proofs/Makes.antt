-- What is not lawful makes no value.
use Rattle.std.proofs.Common.{◌≡◌, ℕ, false, None, Option}
use Rattle.vocabulary.specs.Made.{none_when}
use Rattle.vocabulary.specs.Marks.{lawful_plmn, lawful_lac}
use Rattle.vocabulary.specs.Places.{plmn_when, lai_when}
use Rattle.vocabulary.specs.declared.values.Plmn.{Plmn}

pub plmn_refused : (a b c d e : ℕ) (f : Option ℕ) → lawful_plmn a b c d e f ≡ false → None ≡ plmn_when a b c d e f
unfolding plmn_when
plmn_refused a b c d e f h = none_when _ _ h

pub lai_refused : (p : Plmn) (n : ℕ) → lawful_lac n ≡ false → None ≡ lai_when p n
unfolding lai_when
lai_refused p n h = none_when _ _ h
