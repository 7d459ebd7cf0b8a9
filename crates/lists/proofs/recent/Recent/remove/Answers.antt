use Rattle.std.proofs.Common.{rules, length, sym, ap, ◌∙◌, subst, arith}
use Rattle.std.proofs.lemmas.List.{take_all}
use Rattle.lists.specs.Lists.{distinct, removed}
use Rattle.lists.specs.Laws.{Removes}
use Rattle.lists.proofs.Removals.{distinct_removed, removed_more, removed_new, removes}
use Rattle.lists.proofs.recent.Recent.remove.Goals as goal

pub loop-entry-init : goal.loop-entry-init
unfolding removed
loop-entry-init g c = (c.empty-others.ensures.value, omega (arith, ap length c.empty-others.ensures.value))

pub keep-requires : goal.keep-requires
keep-requires g c =
    let known = c.entries-entry-items.ensures in (
      search rules,
      (
        removed_new g.T.PartialEq.eq g.met.T.Place.told c.entries-entry-items.result.now c.loop-entry.others c.loop-entry.entry-index c.args.x
            c.entry-item.result known.once (omega arith) c.entry-item.is c.loop-entry.invariant.0,
        omega (arith, c.loop-entry.invariant.1, known.bound),
      ),
    )

pub loop-entry-preserved : goal.loop-entry-preserved
loop-entry-preserved g c =
    removed_more g.T.PartialEq.eq g.met.T.Place.told c.entries-entry-items.result.now c.loop-entry.others c.keep.new.self c.loop-entry.entry-index
    c.args.x c.entry-item.result (omega arith) c.entry-item.is c.loop-entry.invariant.0 c.loop-entry.invariant.1 c.keep.ensures.after

pub returns : goal.returns
returns g c =
    let entries = c.entries-entry-items.result.now in
    let known = c.entries-entry-items.ensures in
    let all = take_all c.loop-entry.entry-index entries (omega arith) in
    let made = c.loop-entry.invariant.0 ∙ ap (λ l. removed g.T.PartialEq.eq l c.args.x) (all ∙ known.value) in
    let once = ap (distinct g.T.PartialEq.eq) (sym known.value) ∙ known.once in
    record {
      after = made;
      law = subst (Removes c.args.self.now c.args.x) (sym made) (removes g.T.PartialEq.eq g.met.T.Place.told c.args.self.now c.args.x once);
      bound = omega (arith, c.loop-entry.invariant.1, known.bound);
      once = ap (distinct g.T.PartialEq.eq) made ∙ distinct_removed g.T.PartialEq.eq c.args.self.now c.args.x once;
    }
