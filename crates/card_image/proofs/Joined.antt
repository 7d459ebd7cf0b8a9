-- A front of a front.
use Rattle.std.proofs.Common.{◌≡◌, ℕ, min, List, take, sym, ap, ◌∙◌, inl, inr, arith}
use Rattle.std.proofs.lemmas.List.{take-take, take_all, length-take}
use Rattle.std.proofs.lemmas.Bool.{cases_lt}

-- no more than m of a front of n
pub take_of_take : (n m : ℕ) (l : List ℕ) → take (min n m) l ≡ take n (take m l)
take_of_take n m l =
    elim (cases_lt n m) [
      | inl less ↦ ap (λ k. take k l) (omega arith) ∙ sym (take-take n m l (omega arith))
      | inr more ↦ ap (λ k. take k l) (omega arith) ∙ sym (take_all n (take m l) (omega (arith, length-take m l)))
    ]
