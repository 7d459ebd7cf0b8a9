-- What a text spells in hexadecimal: two digits to an octet, spaces between octets, and a comment from '#' on.
use Rattle.std.specs.Prelude.{ℕ, ◌+◌, ◌-◌, ◌*◌, Bool, cond, ◌&&◌, ◌||◌, List, [], ◌∷◌, ◌++◌, Some, None, Ok, Err, vec_items, Option, Result, Vec, ◌==◌, nat_le}
use Rattle.spelling.specs.declared.octets.Misspelled.{Misspelled}
use Rattle.spelling.specs.declared.octets.Misspelled.TheVariants.{OddDigits, NotHexadecimal}
use Rattle.spelling.specs.declared.octets.Step.{Step}
use Rattle.spelling.specs.declared.octets.Step.TheVariants.{Space, High, Octet, Comment, Bad}

-- 0 to 9, A to F and a to f
abbrev pub digit_of : ℕ → Option ℕ
digit_of c =
    cond (nat_le 48 c && nat_le c 57) (Some (c - 48))
    (cond (nat_le 65 c && nat_le c 70) (Some (c - 65 + 10)) (cond (nat_le 97 c && nat_le c 102) (Some (c - 97 + 10)) None))

abbrev pub space : ℕ → Bool
space c = c == 32 || (c == 9 || c == 13)

-- a character between octets, and one after the high digit of an octet
abbrev pub taken : Option ℕ → ℕ → Step
taken high c = by high (digit_of c)
  where
    by : Option ℕ → Option ℕ → Step
    by (Some h) (Some l) = Octet (h * 16 + l)
    by None (Some h) = High h
    by None None = cond (space c) Space (cond (c == 35) Comment (Bad NotHexadecimal))
    by (Some h) None = cond (space c || c == 35) (Bad OddDigits) (Bad NotHexadecimal)

-- at the end no high digit is left over
abbrev pub ended : List ℕ → Option ℕ → Result (List ℕ) Misspelled
ended done None = Ok done
ended done (Some h) = Err OddDigits

-- what a step adds to the octets so far, where `rest` is told of what is left of the text
abbrev pub stepped : List ℕ → Option ℕ → Step → (List ℕ → Option ℕ → Result (List ℕ) Misspelled) → Result (List ℕ) Misspelled
stepped done high Space rest = rest done high
stepped done high (High h) rest = rest done (Some h)
stepped done high (Octet x) rest = rest (done ++ (x ∷ [])) None
stepped done high Comment rest = Ok done
stepped done high (Bad reason) rest = Err reason

-- what a text spells, after the octets so far and the high digit of the next one
unfoldable pub spelled : List ℕ → Option ℕ → List ℕ → Result (List ℕ) Misspelled
spelled done high [] = ended done high
spelled done high (c ∷ cs) = stepped done high (taken high c) (λ d h. spelled d h cs)

-- the octets that a vector holds
abbrev pub octets_in : {Z : Type 0} → Result (Vec ℕ Z) Misspelled → Result (List ℕ) Misspelled
octets_in (Ok v) = Ok (vec_items v)
octets_in (Err reason) = Err reason

-- the octets that a text spells; no octets where it spells none
abbrev pub octets_or_none : List ℕ → List ℕ
octets_or_none text = by (spelled [] None text)
  where
    by : Result (List ℕ) Misspelled → List ℕ
    by (Ok xs) = xs
    by (Err reason) = []
