use Rattle.std.proofs.Common.{rules}
use Rattle.lists.proofs.bars.Bars.to_circuit.Goals as goal

pub returns-then-contains-2-clause-law : goal.returns-then-contains-2-clause-law
returns-then-contains-2-clause-law c = rw (← c.self.view_is) (search rules)

pub returns-else-contains-2-clause-law : goal.returns-else-contains-2-clause-law
returns-else-contains-2-clause-law c = rw (← c.self.view_is) (search rules)
