use Rattle.std.proofs.Common.{◌≡◌, ◌<◌, true, ltb, length, [], ◌∷◌, ◌++◌, sym, refl, ap, ◌∙◌, arith}
use Rattle.std.proofs.lemmas.Bool.{cond-true}
use Rattle.std.proofs.lemmas.Bool.Decides.{nat_tests}
use Rattle.std.proofs.lemmas.List.{take_more_set}
use Rattle.lists.specs.Lists.{member}
use Rattle.lists.specs.Held.{entries_held}
use Rattle.lists.proofs.Additions.{held_added}
use Rattle.lists.proofs.recent.Recent.append.Goals as goal

pub invariant_of-self : goal.invariant_of-self
invariant_of-self g c =
    let slots = c.self.inside.slots in
    let count = c.self.inside.count in
    let free : count < length slots = omega (arith, ap length c.self.view_is, entries_held c.self.invariant, c.self.invariant.long, c.requires.room) in
    let test : ltb count (length slots) ≡ true = grind (arith, nat_tests) in
    let new = ap (member g.T.PartialEq.eq c.args.x) c.self.view_is ∙ c.requires.new in
    held_added g.T.PartialEq.eq g.met.T.Place.told g.row.N g.T.Place.unused slots slots count count c.args.x c.self.invariant (omega arith)
    (sym (cond-true (ltb count (length slots)) count _ test)) (sym (cond-true (ltb count (length slots)) slots _ test)) refl new

pub returns : goal.returns
returns g c =
    let slots = c.self.inside.slots in
    let count = c.self.inside.count in
    let free : count < length slots = omega (arith, ap length c.self.view_is, entries_held c.self.invariant, c.self.invariant.long, c.requires.room) in
    record { after = take_more_set slots count c.args.x free ∙ ap (λ l. l ++ c.args.x ∷ []) c.self.view_is }
