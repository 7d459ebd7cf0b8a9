-- The words for the fields of a message, and what is told of a misspelled line.
use Rattle.std.specs.Prelude.{ℕ, List, codes}
use Rattle.answers.specs.declared.asked.BadLine.{BadLine}
use Rattle.answers.specs.declared.asked.BadLine.TheVariants as bad
use Rattle.answers.specs.declared.asked.Name.{Name}
use Rattle.answers.specs.declared.asked.Name.TheVariants as name
use Rattle.spelling.specs.declared.octets.Misspelled.{Misspelled}
use Rattle.spelling.specs.declared.octets.Misspelled.TheVariants.{OddDigits, NotHexadecimal}

abbrev pub name_word : Name → List ℕ
name_word name.Imsi = codes "imsi"
name_word name.Tmsi = codes "tmsi"
name_word name.Signature = codes "signature"
name_word name.Rai = codes "rai"
name_word name.Lai = codes "lai"
name_word name.Key = codes "key"
name_word name.Type = codes "type"
name_word name.Classmark = codes "classmark"
name_word name.Capability = codes "capability"
name_word name.Drx = codes "drx"
name_word name.Radio = codes "radio"

-- why a line that spells no octets is not understood
abbrev pub told : Misspelled → BadLine
told OddDigits = bad.OddDigits
told NotHexadecimal = bad.NotHexadecimal
