-- What the words of a line ask for.
use Rattle.std.specs.Prelude.{◌≡◌, ◌≢◌, ℕ, Bool, true, false, List, [], ◌∷◌, map, Some, None, Ok, Err, vec_items, Option, Result, MatchOption, MatchResult, slice_index}
use Rattle.std.specs.List.{All}
use Rattle.vocabulary.specs.Places.{plmn_of}
use Rattle.vocabulary.specs.declared.values.Plmn.{Plmn}
use Rattle.stores.specs.declared.steps.Step.{Step}
use Rattle.stores.specs.declared.steps.Step.TheVariants as step
use Rattle.spelling.specs.Octets.{octets_or_none}
use Rattle.spelling.specs.Sized.{octets_in}
use Rattle.card_lines.specs.Words.{kind_word}
use Rattle.card_lines.specs.declared.commands.Command.{Command}
use Rattle.card_lines.specs.declared.commands.Command.TheVariants as command
use Rattle.card_lines.specs.declared.faults.BadCommand.{BadCommand}
use Rattle.card_lines.specs.declared.faults.BadCommand.TheVariants as bad
use Rattle.card_lines.specs.declared.words.Kind.{Kind}
use Rattle.card_lines.specs.declared.words.Verb.{Verb}
use Rattle.card_lines.specs.declared.words.Verb.TheVariants as verb

-- the steps of a command that has any
abbrev pub steps_of : Command → Option (List Step)
steps_of (command.Steps steps) = Some (vec_items steps)
steps_of _ = None

abbrev pub steps_in : Result Command BadCommand → Option (List Step)
steps_in (Ok c) = steps_of c
steps_in (Err reason) = None

-- a network in six hexadecimal digits
abbrev pub plmn_given : List ℕ → Option Plmn
plmn_given text = by (octets_in 3 (octets_or_none text))
  where
    by : Option (List ℕ) → Option Plmn
    by None = None
    by (Some octets) = plmn_of (slice_index octets 0) (slice_index octets 1) (slice_index octets 2)

-- one step with the network that is given
abbrev pub StepsOn : (Plmn → Step) → List ℕ → Result Command BadCommand → Type 0
StepsOn step text r = MatchOption (plmn_given text) (r ≡ Err bad.BadPlmn) (λ plmn. steps_in r ≡ Some (step plmn ∷ []))

abbrev pub GivesImage : List ℕ → Result Command BadCommand → Type 0
GivesImage text r = MatchOption (octets_in 48 (octets_or_none text)) (r ≡ Err bad.BadImage) (λ image. r ≡ Ok (command.Octets image))

abbrev pub Copies : List ℕ → Result Command BadCommand → Type 0
Copies text r =
    MatchResult r (λ c. (kind : Kind) × (text ≡ kind_word kind) × (c ≡ command.CopyInto kind))
    (λ reason. (reason ≡ bad.UnknownCommand) × ((kind : Kind) → text ≢ kind_word kind))

abbrev pub is_load : Step → Bool
is_load (step.Load card) = true
is_load _ = false

abbrev pub is_write : Step → Bool
is_write (step.WriteImsi imsi) = true
is_write (step.WritePacket packet) = true
is_write (step.WriteCircuit circuit) = true
is_write (step.WriteForbidden plmns) = true
is_write _ = false

-- a card is loaded, or one that is not lawful is refused
abbrev pub Loads : Command → Type 0
Loads (command.Steps steps) = map is_load (vec_items steps) ≡ true ∷ []
Loads (command.Refused fault) = Unit
Loads _ = ⊥

-- parts are written, or a card that is not lawful is refused
abbrev pub Writes : Command → Type 0
Writes (command.Steps steps) = All (λ step. is_write step ≡ true) (vec_items steps)
Writes (command.Refused fault) = Unit
Writes _ = ⊥

-- a verb with the words behind it
abbrev pub Asks : Verb → List (List ℕ) → Result Command BadCommand → Type 0
Asks verb.Load words r = MatchResult r Loads (λ reason. Unit)
Asks verb.Write words r = MatchResult r Writes (λ reason. Unit)
Asks verb.Eject [] r = steps_in r ≡ Some (step.Eject ∷ [])
Asks verb.Eject (word ∷ words) r = r ≡ Err bad.ExtraWord
Asks verb.Damage [] r = r ≡ Ok command.Damage
Asks verb.Damage (word ∷ words) r = r ≡ Err bad.ExtraWord
Asks verb.Show [] r = r ≡ Ok command.Show
Asks verb.Show (word ∷ words) r = r ≡ Err bad.ExtraWord
Asks verb.Octets [] r = r ≡ Err bad.MissingWord
Asks verb.Octets (image ∷ []) r = GivesImage image r
Asks verb.Octets (image ∷ (word ∷ words)) r = r ≡ Err bad.ExtraWord
Asks verb.Copy [] r = r ≡ Err bad.MissingWord
Asks verb.Copy (store ∷ []) r = Copies store r
Asks verb.Copy (store ∷ (word ∷ words)) r = r ≡ Err bad.ExtraWord
Asks verb.Forbid [] r = r ≡ Err bad.MissingWord
Asks verb.Forbid (plmn ∷ []) r = StepsOn step.Forbid plmn r
Asks verb.Forbid (plmn ∷ (word ∷ words)) r = r ≡ Err bad.ExtraWord
Asks verb.Permit [] r = r ≡ Err bad.MissingWord
Asks verb.Permit (plmn ∷ []) r = StepsOn step.Permit plmn r
Asks verb.Permit (plmn ∷ (word ∷ words)) r = r ≡ Err bad.ExtraWord
