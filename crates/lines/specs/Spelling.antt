-- What a line spells in hexadecimal: what its text spells, where a text that spells no octets is a bad line.
use Rattle.std.specs.Prelude.{ℕ, List, Ok, Err, Option, Result}
use Rattle.answers.specs.Words.{told}
use Rattle.answers.specs.declared.asked.BadLine.{BadLine}
use Rattle.spelling.specs.Octets as text
use Rattle.spelling.specs.declared.octets.Misspelled.{Misspelled}

abbrev pub line_of : Result (List ℕ) Misspelled → Result (List ℕ) BadLine
line_of (Ok octets) = Ok octets
line_of (Err reason) = Err (told reason)

-- what a text spells, after the octets so far and the high digit of the next one
abbrev pub spelled : List ℕ → Option ℕ → List ℕ → Result (List ℕ) BadLine
spelled done high cs = line_of (text.spelled done high cs)
