-- How a list is held in slots.
use Rattle.std.specs.Prelude.{◌≡◌, ℕ, ◌-◌, ◌≤◌, Bool, true, List, ◌++◌, length, take, drop, replicate}
use Rattle.std.proofs.Common.{ap, ◌∙◌, arith, take-append-drop, sym}
use Rattle.std.proofs.lemmas.List.{length-take-le}
use Rattle.lists.specs.Lists.{distinct}

-- a list is held in as many slots as it may have entries: the first `count` of them are its entries
pub record Held {X : Type 0} (same : X → X → Bool) (limit : ℕ) (unused : X) (slots : List X) (count : ℕ) : Type 0 where
  pub long : length slots ≡ limit
  pub bound : count ≤ limit
  pub once : distinct same (take count slots) ≡ true
  pub rest : drop count slots ≡ replicate (limit - count) unused

-- the slots that a list is held in
abbrev pub slots_of : {X : Type 0} → ℕ → X → List X → List X
slots_of limit unused xs = xs ++ replicate (limit - length xs) unused

module _ {X : Type 0} {same : X → X → Bool} {limit : ℕ} {unused : X} {slots : List X} {count : ℕ} where
  pub entries_held : Held same limit unused slots count → length (take count slots) ≡ count
  entries_held held = length-take-le count slots (omega (arith, held.long, held.bound))

  pub slots_held : Held same limit unused slots count → slots_of limit unused (take count slots) ≡ slots
  slots_held held =
      ap (λ n. take count slots ++ replicate (limit - n) unused) (entries_held held)
      ∙ ap (λ l. take count slots ++ l) (sym held.rest)
      ∙ take-append-drop count slots
