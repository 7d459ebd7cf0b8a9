use Rattle.std.proofs.Common.{◌≡◌, Some, None, Ok, sym, subst}
use Rattle.card.specs.declared.values.Card.{Card}
use Rattle.stores.specs.Slots.{Slot, asked, Changed}
use Rattle.stores.proofs.trays.change.Goals as goal

-- a card that is answered is the one in the slot
answered : (slot : Slot) (card : Card) → Ok card ≡ asked (λ c. c) slot → slot ≡ Some card
answered None card e = cc
answered (Some c) card e = cc

pub returns-clause-after : goal.returns-clause-after
returns-clause-after g c =
    subst (λ slot. Changed (λ old. g.F.FnOnce.post c.args.made (old, tt)) slot (g.T.Tray.slot c.put.new.self))
    (sym (answered (g.T.Tray.slot c.args.tray.now) c.in_ok-card.card c.in_ok-card.ensures.value))
    (c.made.result, c.made.ensures, c.put.ensures.after)
