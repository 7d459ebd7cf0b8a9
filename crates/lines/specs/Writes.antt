-- What a line that is a command asks for: its words are `write`, a message, and the fields of that message.
use Rattle.std.specs.Prelude.{◌≡◌, ◌≢◌, ℕ, Bool, true, false, cond, ◌⊎◌, List, [], ◌∷◌, length, replicate, codes, Some, None, Ok, Err, Option, Result, MatchOption, MatchResult, ◌==◌, nat_lt}
use Rattle.std.specs.List.{before_first, after_first, position_or_len}
use Rattle.std.specs.Option.{unwrap_or, option_or}
use Rattle.spelling.specs.Words.{CutsInto, Word, uncommented}
use Rattle.answers.specs.Words.{name_word}
use Rattle.answers.specs.declared.asked.BadLine.{BadLine}
use Rattle.answers.specs.declared.asked.BadLine.TheVariants as bad
use Rattle.answers.specs.declared.asked.Line.{Line}
use Rattle.answers.specs.declared.asked.Line.TheVariants as line
use Rattle.answers.specs.declared.asked.Name.{Name}
use Rattle.frames.specs.declared.terminal.Terminal.{Terminal}
use Rattle.frames.specs.declared.uplink.Uplink.{Uplink}
use Rattle.identities.specs.Identities.{imsi_from}
use Rattle.identities.specs.declared.values.Imsi.{Imsi}
use Rattle.lines.specs.Fields.{belongs, message_of}
use Rattle.lines.specs.Sets.{Sets}
use Rattle.lines.specs.Words.{kind_word}
use Rattle.lines.specs.declared.fields.Fields.{Fields}
use Rattle.lines.specs.declared.words.Kind.{Kind}
use Rattle.lines.specs.declared.words.Kind.TheVariants as kind

-- the fields before any word of the line
abbrev pub no_fields : Fields
no_fields = record { imsi = None; tmsi = None; signature = None; rai = None; lai = None; key = None; word = None; classmark = None; capability = None; drx = None; radio = None }

-- the name and the value of a word that is `name=value`
abbrev pub named : List ℕ → Option (List ℕ × List ℕ)
named word = cond (nat_lt (position_or_len (λ c. c == 61) word) (length word)) (Some (before_first (λ c. c == 61) word, after_first (λ c. c == 61) word)) None

-- a message takes the fields that belong to it
abbrev pub TakesField : Bool → Fields → Name → List ℕ → Result Unit BadLine → Fields → Type 0
TakesField true f name value r g = Sets f name value r g
TakesField false f name value r g = r ≡ Err (bad.ForeignField name)

abbrev pub Takes : Kind → Fields → List ℕ → Result Unit BadLine → Fields → Type 0
Takes kind f word r g =
    MatchOption (named word) (r ≡ Err bad.NoValue)
    (λ parts. (found : Option Name) × Word name_word parts.0 found
    × MatchOption found (r ≡ Err bad.UnknownField) (λ name. TakesField (belongs kind name) f name parts.1 r g))

-- the words are taken in their order, up to the first that is bad
abbrev pub TakesAll : Kind → Fields → List (List ℕ) → Result Fields BadLine → Type 0
TakesAll kind f [] r = r ≡ Ok f
TakesAll kind f (word ∷ words) r =
    (one : Result Unit BadLine) × (g : Fields) × Takes kind f word one g × MatchResult one (λ done. TakesAll kind g words r) (λ reason. r ≡ Err reason)

-- a routing area update request carries no identity, so that its IMSI may be left out
abbrev pub unsent_imsi : Kind → Option Imsi
unsent_imsi kind.Update = imsi_from (replicate 15 0)
unsent_imsi _ = None

-- a terminal as the fields give it, each field that is left out by its default
abbrev pub IsTerminal : Fields → Terminal → Type 0
IsTerminal f t =
    (t.classmark ≡ unwrap_or f.classmark 0x33) × (t.capability ≡ unwrap_or f.capability (0xe0 ∷ (0x00 ∷ []))) × (t.drx ≡ unwrap_or f.drx (0x00 ∷ (0x00 ∷ [])))
    × (t.radio ≡ unwrap_or f.radio (replicate 12 0x00))

abbrev pub Makes : Kind → Fields → Result Uplink BadLine → Type 0
Makes kind f r = (t : Terminal) × IsTerminal f t × (r ≡ message_of kind (record f { imsi = option_or f.imsi (unsent_imsi kind) }) t)

-- a message by its word, with the words of its fields behind it
abbrev pub AsksMessage : List (List ℕ) → Result Uplink BadLine → Type 0
AsksMessage [] r = r ≡ Err bad.UnknownMessage
AsksMessage (word ∷ words) r =
    (found : Option Kind) × Word kind_word word found
    × MatchOption found (r ≡ Err bad.UnknownMessage)
    (λ kind. (fields : Result Fields BadLine) × TakesAll kind no_fields words fields × MatchResult fields (λ f. Makes kind f r) (λ reason. r ≡ Err reason))

abbrev pub AsksToWrite : List (List ℕ) → Result Uplink BadLine → Type 0
AsksToWrite [] r = r ≡ Err bad.UnknownCommand
AsksToWrite (word ∷ words) r = ((word ≡ codes "write") × AsksMessage words r) ⊎ ((word ≢ codes "write") × (r ≡ Err bad.UnknownCommand))

-- a line that is not understood is a bad one
abbrev pub told_as : Result Uplink BadLine → Line
told_as (Ok message) = line.Write message
told_as (Err reason) = line.Bad reason

abbrev pub Writes : List ℕ → Line → Type 0
Writes text l = (words : List (List ℕ)) × CutsInto (uncommented text) words × ((r : Result Uplink BadLine) × AsksToWrite words r × (l ≡ told_as r))
