-- What is known where a check of a card was passed.
use Rattle.std.proofs.Common.{◌≡◌, ℕ, Bool, true, false, cond, Some, None, Ok, Err, Option, Result, refl, ap, arith}
use Rattle.std.specs.Option.{option_map}
use Rattle.vocabulary.proofs.Inversions.{never, some_same}
use Rattle.card.specs.Given.{checked, passed, part_of}
use Rattle.card.specs.declared.fields.Unlawful.{Unlawful}

ok_err : {X : Type 0} (x : X) (fault : Unlawful) → Ok x ≡ Err fault → ⊥
ok_err x fault e = let z : ◌≡◌ {A = ℕ} 0 1 = cc in omega arith

pub ok_same : {X : Type 0} (x y : X) → ◌≡◌ {A = Result X Unlawful} (Ok x) (Ok y) → x ≡ y
ok_same x y e = cc

pub checked_ok : {X Y : Type 0} (o : Option X) (fault : Unlawful) (next : X → Result Y Unlawful) (y : Y) → Ok y ≡ checked o fault next
    → (x : X) × (o ≡ Some x) × (Ok y ≡ next x)
checked_ok None fault next y e = absurd (ok_err y fault e)
checked_ok (Some x) fault next y e = (x, refl, e)

pub passed_ok : {X Y : Type 0} (r : Result X Unlawful) (next : X → Result Y Unlawful) (y : Y) → Ok y ≡ passed r next
    → (x : X) × (r ≡ Ok x) × (Ok y ≡ next x)
passed_ok (Ok x) next y e = (x, refl, e)
passed_ok (Err fault) next y e = absurd (ok_err y fault e)

pub cond_some : {X : Type 0} (b : Bool) (x y : X) → cond b (Some x) None ≡ Some y → (b ≡ true) × (x ≡ y)
cond_some true x y e = (refl, some_same x y e)
cond_some false x y e = absurd (never e)

value_read : {Y : Type 0} (r i : Option Y) → option_map Some r ≡ Some i → Some r ≡ option_map Some i
value_read None i e = absurd (never e)
value_read (Some y) i e = ap (option_map Some) (some_same (Some y) i e)

-- a part that may be none is what it reads as
pub part_read : {X Y : Type 0} (read : X → Option Y) (o : Option X) (i : Option Y) → part_of read o ≡ Some i → option_map read o ≡ option_map Some i
part_read read None i e = ap (option_map Some) (some_same None i e)
part_read read (Some x) i e = value_read (read x) i e
