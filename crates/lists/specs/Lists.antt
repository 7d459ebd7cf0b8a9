-- A list of places runs from the oldest entry to the newest and has no entry twice. Worked out once for whatever entries
-- a list has: `same` tells whether two are the same.
use Rattle.std.specs.Prelude.{ℕ, ◌+◌, ◌-◌, Bool, true, false, cond, not, ◌&&◌, ◌||◌, List, [], ◌∷◌, ◌++◌, length, drop, filter}

-- whether an entry is on a list
abbrev pub member : {X : Type 0} → (X → X → Bool) → X → List X → Bool
member same x [] = false
member same x (y ∷ ys) = same y x || member same x ys

-- no entry stands twice
abbrev pub distinct : {X : Type 0} → (X → X → Bool) → List X → Bool
distinct same [] = true
distinct same (x ∷ xs) = not (member same x xs) && distinct same xs

-- an entry that is there changes nothing; another becomes the newest, and a full list loses its oldest for it
unfoldable pub added : {X : Type 0} → (X → X → Bool) → ℕ → List X → X → List X
added same limit xs x = cond (member same x xs) xs (drop (length xs + 1 - limit) (xs ++ x ∷ []))

-- a list without an entry
unfoldable pub removed : {X : Type 0} → (X → X → Bool) → List X → X → List X
removed same xs x = filter (λ y. not (same y x)) xs
