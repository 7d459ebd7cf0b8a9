-- What is said of an answer only where memory is not short.
use Rattle.std.specs.Prelude.{Ok, Err, Result}
use Rattle.spelling.specs.declared.failed.Failed.{Failed}
use Rattle.spelling.specs.declared.failed.Failed.TheVariants.{Bad, Memory}

-- the answer without the shortage
abbrev pub UnlessShort : {X F : Type 0} → Result X (Failed F) → (Result X F → Type 0) → Type 0
UnlessShort (Ok x) holds = holds (Ok x)
UnlessShort (Err (Bad reason)) holds = holds (Err reason)
UnlessShort (Err (Memory error)) holds = Unit
