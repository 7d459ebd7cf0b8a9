-- What a writer answers, and what it leaves in the area that it was lent.
use Rattle.std.specs.Prelude.{ℕ, cond, List, ◌++◌, length, drop, Ok, Err, Result, nat_lt}
use Rattle.std.specs.Borrow.{Bor}
use Rattle.std.specs.List.{flat_map}
use Rattle.frames.specs.declared.uplink.WriteFault.{WriteFault}
use Rattle.frames.specs.declared.uplink.WriteFault.TheVariants.{NoRoom}

-- the number of octets written, where the area has room for them
abbrev pub answered : List ℕ → List ℕ → Result ℕ WriteFault
answered message area = cond (nat_lt (length area) (length message)) (Err NoRoom) (Ok (length message))

-- the message, and after it what stood there; all that stood there where there is no room
abbrev pub over : List ℕ → List ℕ → List ℕ
over message area = cond (nat_lt (length area) (length message)) area (message ++ drop (length message) area)

-- the octets of parts that are lent, one part after the other
abbrev pub joined : List (Bor (List ℕ)) → List ℕ
joined parts = flat_map (λ part. part.now) parts
