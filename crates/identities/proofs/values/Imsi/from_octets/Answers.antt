use Rattle.std.proofs.Common.{◌∙◌}
use Rattle.std.proofs.lemmas.Bool.{cond_below}
use Rattle.identities.specs.Identities.{imsi_when}
use Rattle.identities.proofs.values.Imsi.from_octets.Goals as goal

pub returns : goal.returns
returns c = record {
  value = c.imsi_when.ensures.value
      ∙ (λ k. imsi_when (c.places_of.ensures k) (c.digits_in.ensures k))
      ∙ cond_below _ 9 _ _ c.if-coded-ge9.false;
}
