use Rattle.std.proofs.Common.{◌∙◌, ap}
use Rattle.std.proofs.lemmas.Bool.Decides.{Decides-at}
use Rattle.lists.specs.Lists.{member}
use Rattle.lists.proofs.Members.{member_from_any, member_decides}
use Rattle.lists.proofs.recent.Recent.contains.Goals as goal

pub returns : goal.returns
returns g c =
    let told = c.contains.ensures.value ∙ member_from_any g.T.PartialEq.eq c.args.x.now c.entries.result.now
    ∙ ap (member g.T.PartialEq.eq c.args.x.now) c.entries.ensures.value in
    record {
      value = told;
      law = Decides-at c.contains.result _ told (member_decides g.T.PartialEq.eq g.met.T.Place.told c.args.x.now c.args.self.now);
    }
