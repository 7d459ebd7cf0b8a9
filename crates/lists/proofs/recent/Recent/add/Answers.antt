use Rattle.std.proofs.Common.{◌≡◌, ◌≤◌, true, length, sym, ap, ◌∙◌, subst, arith}
use Rattle.lists.specs.Laws.{Adds}
use Rattle.lists.specs.Lists.{member, distinct, added}
use Rattle.lists.specs.Held.{entries_held}
use Rattle.lists.proofs.Additions.{some_slots, no_slots, added_there, added_nowhere, added_in_slot, held_added, adds}
use Rattle.lists.proofs.recent.Recent.add.Goals as goal

pub returns-then-contains : goal.returns-then-contains
returns-then-contains g c =
    let there : member g.T.PartialEq.eq c.args.x c.args.self.now ≡ true = sym c.contains.ensures.value ∙ c.if-contains.true in
    let same = sym (added_there g.T.PartialEq.eq g.row.N c.args.self.now c.args.x there) in
    let few : length c.args.self.now ≤ g.row.N = omega (arith, ap length c.self.view_is, entries_held c.self.invariant, c.self.invariant.bound) in
    let once : distinct g.T.PartialEq.eq c.args.self.now ≡ true = ap (distinct g.T.PartialEq.eq) (sym c.self.view_is) ∙ c.self.invariant.once in
    record {
      after = same;
      law = λ some. subst (Adds g.row.N c.args.self.now c.args.x) (sym same) (adds g.T.PartialEq.eq g.met.T.Place.told g.row.N c.args.self.now c.args.x some few once);
    }

pub returns-then-is_empty : goal.returns-then-is_empty
returns-then-is_empty g c =
    let none : length c.self.inside.slots ≡ 0 = no_slots (length c.self.inside.slots) (sym c.is_empty.ensures ∙ c.if-is_empty.true) in
    let bound : g.row.N ≡ 0 = omega (arith, c.self.invariant.long) in
    let few : length c.args.self.now ≡ 0 = omega (arith, ap length c.self.view_is, entries_held c.self.invariant, c.self.invariant.bound) in
    record {
      after = added_nowhere g.T.PartialEq.eq c.args.self.now c.args.x few ∙ ap (λ n. added g.T.PartialEq.eq n c.args.self.now c.args.x) (sym bound);
      law = λ some. absurd (omega arith);
    }

pub invariant_of-self : goal.invariant_of-self
invariant_of-self g c =
    let some = some_slots (length c.self.inside.slots) (sym c.is_empty.ensures ∙ c.if-is_empty.false) in
    let new = ap (member g.T.PartialEq.eq c.args.x) c.self.view_is ∙ sym c.contains.ensures.value ∙ c.if-contains.false in
    held_added g.T.PartialEq.eq g.met.T.Place.told g.row.N g.T.Place.unused c.self.inside.slots c.make_room-at.new.slots c.self.inside.count
    c.make_room-at.result c.args.x c.self.invariant some c.make_room-at.ensures.value c.make_room-at.ensures.after c.make_room-at.auto.slots new

pub returns : goal.returns
returns g c =
    let some = some_slots (length c.self.inside.slots) (sym c.is_empty.ensures ∙ c.if-is_empty.false) in
    let new = ap (member g.T.PartialEq.eq c.args.x) c.self.view_is ∙ sym c.contains.ensures.value ∙ c.if-contains.false in
    let few : length c.args.self.now ≤ g.row.N = omega (arith, ap length c.self.view_is, entries_held c.self.invariant, c.self.invariant.bound) in
    let once : distinct g.T.PartialEq.eq c.args.self.now ≡ true = ap (distinct g.T.PartialEq.eq) (sym c.self.view_is) ∙ c.self.invariant.once in
    let made =
    added_in_slot g.T.PartialEq.eq c.self.inside.slots c.make_room-at.new.slots c.self.inside.count c.make_room-at.result c.args.x
    (omega (arith, c.self.invariant.bound, c.self.invariant.long)) some c.make_room-at.ensures.value c.make_room-at.ensures.after new
    ∙ (λ k. added g.T.PartialEq.eq (c.self.invariant.long k) (c.self.view_is k) c.args.x) in
    record {
      after = made;
      law = λ room. subst (Adds g.row.N c.args.self.now c.args.x) (sym made) (adds g.T.PartialEq.eq g.met.T.Place.told g.row.N c.args.self.now c.args.x room few once);
    }
