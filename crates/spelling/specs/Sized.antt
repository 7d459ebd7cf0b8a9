-- Octets of a fixed number.
use Rattle.std.specs.Prelude.{ℕ, cond, List, length, Some, None, Option, ◌==◌}

-- exactly n octets
abbrev pub octets_in : ℕ → List ℕ → Option (List ℕ)
octets_in n xs = cond (length xs == n) (Some xs) None
