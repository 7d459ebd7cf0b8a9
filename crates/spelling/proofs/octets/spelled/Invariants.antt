use Rattle.std.proofs.Common.{◌≡◌, [], drop, None, vec_items}
use Rattle.spelling.specs.Octets.{spelled}
use Rattle.spelling.proofs.octets.spelled.Given as goal

-- what is left gives the answer
abbrev pub invariant-loop-character : goal.invariant-loop-character
invariant-loop-character l = spelled (vec_items l.octets) l.high (drop l.character-index l.text) ≡ spelled [] None l.text
