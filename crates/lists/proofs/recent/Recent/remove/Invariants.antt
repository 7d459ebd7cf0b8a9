use Rattle.std.proofs.Common.{◌≡◌, ◌≤◌, length, take}
use Rattle.lists.specs.Lists.{removed}
use Rattle.lists.proofs.recent.Recent.remove.Given as goal

-- the list so far is that of the entries so far, without the one to remove
abbrev pub invariant-loop-entry : goal.invariant-loop-entry
invariant-loop-entry g l =
    (l.others ≡ removed g.T.PartialEq.eq (take l.entry-index l.entry-items) l.x) × (length l.others ≤ l.entry-index)
