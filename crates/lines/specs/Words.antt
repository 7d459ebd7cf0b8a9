-- The words of a line that is a command.
use Rattle.std.specs.Prelude.{ℕ, List, Some, None, Ok, Err, codes, Option, Result}
use Rattle.answers.specs.declared.asked.BadLine.{BadLine}
use Rattle.answers.specs.declared.asked.BadLine.TheVariants.{BadValue, RepeatedField}
use Rattle.answers.specs.declared.asked.Name.{Name}
use Rattle.lines.specs.declared.words.Kind.{Kind}
use Rattle.lines.specs.declared.words.Kind.TheVariants as kind
use Rattle.lines.specs.declared.words.TypeWord.{TypeWord}
use Rattle.lines.specs.declared.words.TypeWord.TheVariants as word

abbrev pub kind_word : Kind → List ℕ
kind_word kind.Attach = codes "attach"
kind_word kind.Update = codes "update"
kind_word kind.Location = codes "location"
kind_word kind.Detach = codes "detach"
kind_word kind.Indication = codes "indication"
kind_word kind.AttachComplete = codes "attach-complete"
kind_word kind.UpdateComplete = codes "update-complete"
kind_word kind.TmsiComplete = codes "tmsi-complete"

abbrev pub type_word : TypeWord → List ℕ
type_word word.Normal = codes "normal"
type_word word.Periodic = codes "periodic"
type_word word.ImsiAttach = codes "imsi-attach"
type_word word.Gprs = codes "gprs"
type_word word.SwitchOff = codes "switch-off"

-- a field takes a lawful value, once
abbrev pub putting : {X : Type 0} → Option X → Option X → Name → Result Unit BadLine
putting old None n = Err (BadValue n)
putting (Some x) (Some y) n = Err (RepeatedField n)
putting None (Some y) n = Ok tt
