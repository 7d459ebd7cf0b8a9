-- Words of a line.
use Rattle.std.specs.Prelude.{◌≡◌, ℕ, ◌<◌, List, [], ◌∷◌, ◌++◌, length, Option, Result, IfErr, MatchOption, ◌≢◌, ◌==◌}
use Rattle.std.specs.Char.{is_whitespace, is_not_whitespace}
use Rattle.std.specs.List.{before_first}
use Rattle.std.specs.Str.{NoCharPasses, EmptyOrStartsWithPassing}
use Rattle.std.specs.Result.{result_ok}
use Rattle.std.specs.Str.Iter.{split_whitespace_rest}
use Rattle.std.specs.declared.str.SplitWhitespace.{SplitWhitespace}

-- a text is the word of what is found, and of nothing where none is
abbrev pub Word : {X : Type 0} → (X → List ℕ) → List ℕ → Option X → Type 0
Word {X} spelled text r = MatchOption r ((x : X) → text ≢ spelled x) (λ x. text ≡ spelled x)

-- a text is read as the word of what is found; where it is the word of nothing, that is the fault
abbrev pub ReadsWord : {X E : Type 0} → (X → List ℕ) → E → List ℕ → Result X E → Type 0
ReadsWord spelled fault text r = Word spelled text (result_ok r) × IfErr r (λ e. e ≡ fault)

-- a comment begins with '#'
abbrev pub uncommented : List ℕ → List ℕ
uncommented line = before_first (λ c. c == 35) line

-- the words of a text, with white space between them, and nothing but white space before and behind
abbrev pub CutsInto : List ℕ → List (List ℕ) → Type 0
CutsInto text [] = NoCharPasses is_not_whitespace text
CutsInto text (word ∷ words) =
    (gap : List ℕ) × (rest : List ℕ) × (text ≡ gap ++ (word ++ rest)) × (0 < length word) × NoCharPasses is_not_whitespace gap × NoCharPasses is_whitespace word
    × ((more : List ℕ) × EmptyOrStartsWithPassing is_whitespace rest more) × CutsInto rest words

-- what holds of the words that are still to come
abbrev pub OfWords : SplitWhitespace → (List (List ℕ) → Type 0) → Type 0
OfWords left holds = (words : List (List ℕ)) × CutsInto (split_whitespace_rest left) words × holds words
