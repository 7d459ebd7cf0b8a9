use Rattle.std.proofs.Common.{length, sym, ◌∙◌}
use Rattle.std.proofs.lemmas.Bool.{ltb-true, ltb-false}
use Rattle.card_image.proofs.Opened.{place_there, place_empty}
use Rattle.card_image.proofs.layout.place_octets.Goals as goal

pub returns-in-Some : goal.returns-in-Some
returns-in-Some c = record {
  value = c.octets.ensures.value
      ∙ place_there c.args.list.now c.args.place c.in-Some.plmn.now
      (ltb-true c.args.place (length c.args.list.now) (sym c.in-Some.ensures.lookup.0)) (c.in-Some.ensures.lookup.1);
}

pub returns-in-None : goal.returns-in-None
returns-in-None c =
    record { value = place_empty c.args.list.now c.args.place (ltb-false c.args.place (length c.args.list.now) (sym c.in-None.ensures.lookup.0)) }
