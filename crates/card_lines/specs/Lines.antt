-- What a line asks for, by its words up to a comment.
use Rattle.std.specs.Prelude.{◌≡◌, ℕ, List, [], ◌∷◌, Ok, Err, Option, Result, MatchOption}
use Rattle.spelling.specs.Words.{CutsInto, Word, uncommented}
use Rattle.card_lines.specs.Commands.{Asks}
use Rattle.card_lines.specs.Words.{verb_word}
use Rattle.card_lines.specs.declared.commands.Command.{Command}
use Rattle.card_lines.specs.declared.commands.Command.TheVariants.{Blank, Bad}
use Rattle.card_lines.specs.declared.faults.BadCommand.{BadCommand}
use Rattle.card_lines.specs.declared.faults.BadCommand.TheVariants.{UnknownCommand}
use Rattle.card_lines.specs.declared.words.Verb.{Verb}

-- no word is a blank line, and else the first word is the verb
abbrev pub AsksWords : List (List ℕ) → Result Command BadCommand → Type 0
AsksWords [] r = r ≡ Ok Blank
AsksWords (word ∷ words) r = (verb : Option Verb) × Word verb_word word verb × MatchOption verb (r ≡ Err UnknownCommand) (λ v. Asks v words r)

-- a line that is not understood is a bad one
abbrev pub told : Result Command BadCommand → Command
told (Ok command) = command
told (Err reason) = Bad reason

abbrev pub AsksFor : List ℕ → Command → Type 0
AsksFor line command = (words : List (List ℕ)) × CutsInto (uncommented line) words × ((r : Result Command BadCommand) × AsksWords words r × (command ≡ told r))
