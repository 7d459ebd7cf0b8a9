use Rattle.std.proofs.Common.{sym, ap, ◌∙◌, subst}
use Rattle.card_image.specs.Meaning.{only_written_so, contents_in, Means}
use Rattle.card_image.proofs.Meant.{meant}
use Rattle.card_image.proofs.reading.card_in.Goals as goal

pub returns : goal.returns
unfolding contents_in
returns c =
    let xs = c.args.image.now in
    let value = c.if_written_so.ensures.value ∙ ap (only_written_so xs) c.in_ok-card.ensures.value in
    record { value = value; means = subst (Means xs) (sym value) (meant xs) }

pub returns-in_err-card : goal.returns-in_err-card
unfolding contents_in
returns-in_err-card c =
    let xs = c.args.image.now in
    let value = c.from_residual.ensures ∙ ap (only_written_so xs) c.in_err-card.ensures.value in
    record { value = value; means = subst (Means xs) (sym value) (meant xs) }
