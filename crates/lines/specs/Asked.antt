-- What a line of text asks for.
use Rattle.std.specs.Prelude.{◌≡◌, ℕ, ◌<◌, Bool, List, [], length, Ok, Err, vec_items, Result, ◌==◌, slice_index}
use Rattle.answers.specs.declared.asked.BadLine.{BadLine}
use Rattle.answers.specs.declared.asked.Line.{Line}
use Rattle.answers.specs.declared.asked.Line.TheVariants.{Blank, Frame, Write, Bad}

-- a command begins with a 'w', which is no hexadecimal digit
abbrev pub command : List ℕ → Bool
command text = slice_index text 0 == 119

-- no octets are a blank line, some are a frame, and a text that spells none is a bad line
abbrev pub Asks : Line → Result (List ℕ) BadLine → Type 0
Asks Blank r = r ≡ Ok []
Asks (Frame octets) r = (r ≡ Ok (vec_items octets)) × (0 < length (vec_items octets))
Asks (Write message) r = ⊥
Asks (Bad reason) r = r ≡ Err reason
