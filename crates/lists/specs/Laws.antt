-- What the lists promise to network selection, told without the tests and the steps of the program.
use Rattle.std.specs.Prelude.{◌≡◌, ℕ, ◌+◌, ◌-◌, ◌<◌, ◌≤◌, ◌⊎◌, List, [], ◌∷◌, ◌++◌, length, ◌≢◌, slice_index_or}
use Rattle.std.specs.List.{ContainsAt as Has}

-- no entry stands in two places
abbrev pub Once : {X : Type 0} → List X → Type 0
Once {X} xs = (i j : ℕ) (d : X) → i < j → j < length xs → slice_index_or xs i d ≢ slice_index_or xs j d

-- entries of a list in the order that they have there
abbrev pub Among : {X : Type 0} → List X → List X → Type 0
Among [] ys = Unit {0}
Among (x ∷ xs) [] = ⊥
Among (x ∷ xs) (y ∷ ys) = ((x ≡ y) × Among xs ys) ⊎ Among (x ∷ xs) ys

-- What adding an entry does: where it is on the list nothing changes; else the oldest entries that find no room go,
-- the others stay in their order, and the new one comes last.
pub record Adds {X : Type 0} (limit : ℕ) (before : List X) (x : X) (after : List X) : Type 0 where
  pub once : Once after
  pub bound : length after ≤ limit
  pub there : Has after x
  pub unchanged : Has before x → after ≡ before
  pub newest : (Has before x → ⊥) → (oldest : List X) × (before ++ x ∷ [] ≡ oldest ++ after) × (length oldest ≡ length before + 1 - limit)

-- What removing an entry does: it is no longer there, and the others stay in their order.
pub record Removes {X : Type 0} (before : List X) (x : X) (after : List X) : Type 0 where
  pub once : Once after
  pub gone : Has after x → ⊥
  pub unchanged : (Has before x → ⊥) → after ≡ before
  pub others : Has before x → (older : List X) × (newer : List X) × (before ≡ older ++ x ∷ newer) × (after ≡ older ++ newer)

-- What the equivalent networks are: the accepted one and those that were given, in the order in which they were given,
-- none twice, and none but the accepted one that is forbidden.
pub record Equates {X : Type 0} (given forbidden : List X) (accepted : X) (made : List X) : Type 0 where
  pub once : Once made
  pub accepts : Has made accepted
  pub allowed : (x : X) → Has made x → Has forbidden x → x ≡ accepted
  pub offered : (x : X) → Has made x → (x ≡ accepted) ⊎ Has given x
  pub ordered : Among made (given ++ accepted ∷ [])
  pub complete : (x : X) → Has given x → (Has forbidden x → ⊥) → Has made x
