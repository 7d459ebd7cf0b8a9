-- One character more of a text.
use Rattle.std.proofs.Common.{◌≡◌, ℕ, ◌+◌, ◌<◌, ◌≤◌, List, length, get_or, drop, Option}
use Rattle.std.proofs.lemmas.List.{at_drop_more, at_drop_all}
use Rattle.spelling.specs.Octets.{taken, ended, stepped, spelled}

pub one_more : (done : List ℕ) (high : Option ℕ) (text : List ℕ) (i : ℕ) → i < length text → spelled done high (drop i text) ≡ stepped done high (taken high (get_or text i 0)) (λ d h. spelled d h (drop (i + 1) text))
unfolding spelled
one_more done high text i lt = at_drop_more (spelled done high) text i 0 lt

pub no_more : (done : List ℕ) (high : Option ℕ) (text : List ℕ) (i : ℕ) → length text ≤ i → spelled done high (drop i text) ≡ ended done high
unfolding spelled
no_more done high text i le = at_drop_all (spelled done high) text i le

pub ruleset spelling_steps = (one_more, no_more)
