use Rattle.std.proofs.Common.{rules}
use Rattle.lists.proofs.bars.Bars.to_packet.Goals as goal

pub returns-else-to_circuit-clause-law : goal.returns-else-to_circuit-clause-law
returns-else-to_circuit-clause-law c = rw (← c.self.view_is) (search rules)
