use Rattle.std.proofs.Common.{rules}
use Rattle.card.proofs.Keeping.{card_kept}
use Rattle.card.proofs.values.Card.from_fields.Goals as goal

pub returns-clause-kept : goal.returns-clause-kept
returns-clause-kept c = card_kept _ _ (search rules)
