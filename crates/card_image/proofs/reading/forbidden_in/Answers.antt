use Rattle.std.proofs.Common.{◌≡◌, [], get_or, None, sym, ap, ◌∙◌, arith, rules}
use Rattle.card_image.specs.Meaning.{added_some, plmn_at}
use Rattle.card_image.proofs.Networks.{adding, four_added, adding_more, adding_done}
use Rattle.card_image.proofs.reading.forbidden_in.Goals as goal

pub loop-plmn-init : goal.loop-plmn-init
loop-plmn-init c = ap (λ l. adding l c.from_fn-places.result) c.empty-list.ensures.value

pub loop-plmn-preserved : goal.loop-plmn-preserved
loop-plmn-preserved c =
    let places = c.from_fn-places.result in
    let added = c.add_some.ensures.after ∙ ap (added_some c.loop-plmn.list) (sym c.plmn-item.is) in
    adding_more c.loop-plmn.list c.add_some.new.list (adding [] places) places c.loop-plmn.plmn-index c.plmn-item.result
    (omega arith) c.plmn-item.is added c.loop-plmn.invariant

pub returns : goal.returns
returns c =
    let xs = c.args.image.now in
    let places = c.from_fn-places.result in
    let one : get_or places 0 None ≡ plmn_at xs 34 = search rules in
    let two : get_or places 1 None ≡ plmn_at xs 37 = search rules in
    let three : get_or places 2 None ≡ plmn_at xs 40 = search rules in
    let four : get_or places 3 None ≡ plmn_at xs 43 = search rules in
    record {
      value = adding_done c.loop-plmn.list (adding [] places) places c.loop-plmn.plmn-index (omega arith) c.loop-plmn.invariant
          ∙ four_added places (omega arith)
          ∙ (λ k. added_some (added_some (added_some (added_some [] (one k)) (two k)) (three k)) (four k));
    }
