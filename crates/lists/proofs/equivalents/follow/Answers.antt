use Rattle.std.proofs.Common.{◌∙◌}
use Rattle.lists.proofs.Equating.{added_with_room}
use Rattle.lists.proofs.equivalents.follow.Goals as goal

pub returns-clause-after : goal.returns-clause-after
returns-clause-after c = c.add.ensures.after ∙ added_with_room 6 c.args.networks.now c.args.plmn c.requires.room
