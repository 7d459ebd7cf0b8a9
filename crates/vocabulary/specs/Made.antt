-- How values that carry a proof come about, and one question after another.
use Rattle.std.specs.Prelude.{◌≡◌, Bool, true, false, Some, None, Option, refl}
use Rattle.std.proofs.Common.{ap}
use mathlib.Core.Bool.{Bool-set}
use Rattle.std.proofs.lemmas.Bool.{false≢true, true≢false}

-- a value that carries the proof that it is lawful, made where the test passes
abbrev pub when : {X : Type 0} (b : Bool) → (b ≡ true → X) → Option X
when true make = Some (make refl)
when false make = None

-- what is asked of a value, where there is one
abbrev pub then : {X Y : Type 0} → Option X → (X → Option Y) → Option Y
then None ask = None
then (Some x) ask = ask x

-- a value that carries a proof is what `when` makes, whatever proof it carries
pub some_when : {X : Type 0} (b : Bool) (make : b ≡ true → X) (p : b ≡ true) → Some (make p) ≡ when b make
some_when true make p = ap (λ q. Some (make q)) (Bool-set true true p refl)
some_when false make p = absurd (false≢true p)

pub none_when : {X : Type 0} (b : Bool) (make : b ≡ true → X) → b ≡ false → None ≡ when b make
none_when true make p = absurd (true≢false p)
none_when false make p = refl
