use Rattle.std.proofs.Common.{◌≡◌, [], drop}
use Rattle.card_image.proofs.Networks.{adding}
use Rattle.card_image.proofs.reading.forbidden_in.Given as goal

-- the places that are left, added to the list so far, give the whole list
abbrev pub invariant-loop-plmn : goal.invariant-loop-plmn
invariant-loop-plmn l = adding l.list (drop l.plmn-index l.plmn-items) ≡ adding [] l.plmn-items
