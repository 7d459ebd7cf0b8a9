use Rattle.std.proofs.Common.{[], sym, ap, ◌∙◌, subst, arith}
use Rattle.lists.specs.Equivalents.{followed_by, kept_entries, given_entries}
use Rattle.lists.specs.Laws.{Equates}
use Rattle.lists.proofs.Equating.{entries_more, entries_all, equates}
use Rattle.lists.proofs.equivalents.EquivalentPlmns.new.Goals as goal

pub loop-entry-preserved : goal.loop-entry-preserved
loop-entry-preserved c = (
  entries_more c.args.forbidden.now c.loop-entry.networks c.keep.new.networks
      (kept_entries c.args.forbidden.now [] c.args.given.now) c.args.given.now c.loop-entry.entry-index c.entry-item.result
      (omega arith) c.keep.ensures.after c.loop-entry.invariant.0,
  omega arith,
)

pub returns : goal.returns
returns c =
    let forbidden = c.args.forbidden.now in
    let given = c.args.given.now in
    let kept =
    entries_all forbidden c.loop-entry.networks (kept_entries forbidden [] given) given c.loop-entry.entry-index (omega arith)
    c.loop-entry.invariant.0 in
    let made = c.follow.ensures.after ∙ ap (λ l. followed_by l c.args.accepted) kept in
    record {
      value = made;
      law = subst (Equates (given_entries given) forbidden c.args.accepted) (sym made) (equates given forbidden c.args.accepted);
    }
