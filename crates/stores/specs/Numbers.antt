-- What the host is told of a store that refuses.
use Rattle.std.specs.Prelude.{ℕ}
use Rattle.vocabulary.specs.declared.refusals.Refusal.{Refusal}
use Rattle.vocabulary.specs.declared.refusals.Layer.TheVariants.{Store}
use Rattle.stores.specs.declared.faults.StoreFault.{StoreFault}
use Rattle.stores.specs.declared.faults.StoreFault.TheVariants.{NoCard, SlotFull}

abbrev pub store_number : StoreFault → ℕ
store_number NoCard = 3
store_number SlotFull = 3

-- the host's own call is at fault, so no octet is
abbrev pub store_refusal : StoreFault → Refusal
store_refusal fault = record { number = store_number fault; layer = Store; octet = 0 }
