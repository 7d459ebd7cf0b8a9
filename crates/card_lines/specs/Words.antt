-- The words of a line.
use Rattle.std.specs.Prelude.{ℕ, List, codes}
use Rattle.card_lines.specs.declared.words.Verb.{Verb}
use Rattle.card_lines.specs.declared.words.Verb.TheVariants.{Load, Write, Eject, Forbid, Permit, Show, Octets, Copy, Damage}
use Rattle.card_lines.specs.declared.words.Kind.{Kind}
use Rattle.card_lines.specs.declared.words.Kind.TheVariants.{Plain, Image}
use Rattle.card_lines.specs.declared.words.Part.{Part}
use Rattle.card_lines.specs.declared.words.Part.TheVariants.{Imsi, Packet, Circuit, Forbidden}

abbrev pub kind_word : Kind → List ℕ
kind_word Plain = codes "plain"
kind_word Image = codes "image"

abbrev pub part_word : Part → List ℕ
part_word Imsi = codes "imsi"
part_word Packet = codes "packet"
part_word Circuit = codes "circuit"
part_word Forbidden = codes "forbidden"

abbrev pub verb_word : Verb → List ℕ
verb_word Load = codes "load"
verb_word Write = codes "write"
verb_word Eject = codes "eject"
verb_word Forbid = codes "forbid"
verb_word Permit = codes "permit"
verb_word Show = codes "show"
verb_word Octets = codes "octets"
verb_word Copy = codes "copy"
verb_word Damage = codes "damage"
