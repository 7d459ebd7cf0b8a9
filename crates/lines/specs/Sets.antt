-- What becomes of the fields of a line where a text gives the value of one.
use Rattle.std.specs.Prelude.{◌≡◌, List, ℕ, Option, Result}
use Rattle.std.specs.Option.{option_or}
use Rattle.answers.specs.declared.asked.BadLine.{BadLine}
use Rattle.answers.specs.declared.asked.Name.{Name}
use Rattle.answers.specs.declared.asked.Name.TheVariants as name
use Rattle.lines.specs.Values.{tmsi_in, signature_in, rai_in, lai_in, octet_in, key_in, imsi_in}
use Rattle.lines.specs.Words.{putting, type_word}
use Rattle.lines.specs.declared.fields.Fields.{Fields}
use Rattle.lines.specs.declared.words.TypeWord.{TypeWord}
use Rattle.spelling.specs.Octets.{octets_or_none}
use Rattle.spelling.specs.Sized.{octets_in}
use Rattle.spelling.specs.Words.{Word}

-- the field of that name takes the value, and the others stay
abbrev pub Sets : Fields → Name → List ℕ → Result Unit BadLine → Fields → Type 0
Sets f name.Imsi text r g = (r ≡ putting f.imsi (imsi_in text) name.Imsi) × (g ≡ record f { imsi = option_or f.imsi (imsi_in text) })
Sets f name.Tmsi text r g = (r ≡ putting f.tmsi (tmsi_in (octets_or_none text)) name.Tmsi) × (g ≡ record f { tmsi = option_or f.tmsi (tmsi_in (octets_or_none text)) })
Sets f name.Signature text r g = (r ≡ putting f.signature (signature_in (octets_or_none text)) name.Signature) × (g ≡ record f { signature = option_or f.signature (signature_in (octets_or_none text)) })
Sets f name.Rai text r g = (r ≡ putting f.rai (rai_in (octets_or_none text)) name.Rai) × (g ≡ record f { rai = option_or f.rai (rai_in (octets_or_none text)) })
Sets f name.Lai text r g = (r ≡ putting f.lai (lai_in (octets_or_none text)) name.Lai) × (g ≡ record f { lai = option_or f.lai (lai_in (octets_or_none text)) })
Sets f name.Key text r g = (r ≡ putting f.key (key_in text) name.Key) × (g ≡ record f { key = option_or f.key (key_in text) })
Sets f name.Classmark text r g = (r ≡ putting f.classmark (octet_in (octets_or_none text)) name.Classmark) × (g ≡ record f { classmark = option_or f.classmark (octet_in (octets_or_none text)) })
Sets f name.Capability text r g = (r ≡ putting f.capability (octets_in 2 (octets_or_none text)) name.Capability) × (g ≡ record f { capability = option_or f.capability (octets_in 2 (octets_or_none text)) })
Sets f name.Drx text r g = (r ≡ putting f.drx (octets_in 2 (octets_or_none text)) name.Drx) × (g ≡ record f { drx = option_or f.drx (octets_in 2 (octets_or_none text)) })
Sets f name.Radio text r g = (r ≡ putting f.radio (octets_in 12 (octets_or_none text)) name.Radio) × (g ≡ record f { radio = option_or f.radio (octets_in 12 (octets_or_none text)) })
Sets f name.Type text r g = (w : Option TypeWord) × (Word type_word text w × (r ≡ putting f.word w name.Type) × (g ≡ record f { word = option_or f.word w }))
