-- What is known where there is an answer.
use Rattle.std.proofs.Common.{◌≡◌, ℕ, Bool, true, false, Some, None, Option, refl, arith}
use Rattle.std.specs.Option.{option_map}
use Rattle.vocabulary.specs.Made.{when, then}

pub never : {X : Type 0} {x : X} → None ≡ Some x → ⊥
never e = let z : ◌≡◌ {A = ℕ} 0 1 = cc in omega arith

pub some_same : {X : Type 0} (x y : X) → Some x ≡ Some y → x ≡ y
some_same x y e = cc

pub when_some : {X : Type 0} (b : Bool) (make : b ≡ true → X) (x : X) → when b make ≡ Some x → (p : b ≡ true) × (make p ≡ x)
when_some true make x e = (refl, cc)
when_some false make x e = absurd (never e)

pub then_some : {X Y : Type 0} (o : Option X) (ask : X → Option Y) (y : Y) → then o ask ≡ Some y → (x : X) × (o ≡ Some x) × (ask x ≡ Some y)
then_some None ask y e = absurd (never e)
then_some (Some x) ask y e = (x, refl, e)

pub mapped_some : {X Y : Type 0} (f : X → Y) (o : Option X) (y : Y) → option_map f o ≡ Some y → (x : X) × (o ≡ Some x) × (f x ≡ y)
mapped_some f None y e = absurd (never e)
mapped_some f (Some x) y e = (x, refl, cc)
