use Rattle.std.proofs.Common.{◌≡◌, ◌≤◌, [], length, drop}
use Rattle.lists.specs.Equivalents.{kept_entries}
use Rattle.lists.proofs.equivalents.EquivalentPlmns.new.Given as goal

-- the entries that are left, kept behind the list so far, give the whole list; none of the entries so far gave more than one
abbrev pub invariant-loop-entry : goal.invariant-loop-entry
invariant-loop-entry l =
    (kept_entries l.forbidden l.networks (drop l.entry-index l.given) ≡ kept_entries l.forbidden [] l.given)
    × (length l.networks ≤ l.entry-index)
