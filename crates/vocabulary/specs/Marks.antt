-- Which octets and digits are lawful in a place. A mark says that there is none, and is never a value.
use Rattle.std.specs.Prelude.{ℕ, Bool, true, not, ◌&&◌, Some, None, Option, ◌==◌, nat_lt}

-- a decimal digit
abbrev pub digit : ℕ → Bool
digit n = nat_lt n 10

-- the third digit of a mobile network code: a digit, or none where the code has two
abbrev pub third_digit : Option ℕ → Bool
third_digit None = true
third_digit (Some n) = digit n

-- a country code of three digits, then a network code of two or three
abbrev pub lawful_plmn : ℕ → ℕ → ℕ → ℕ → ℕ → Option ℕ → Bool
lawful_plmn a b c d e f = digit a && (digit b && (digit c && (digit d && (digit e && third_digit f))))

-- a location area code: two octets, and not the mark FFFE
abbrev pub lawful_lac : ℕ → Bool
lawful_lac n = not (n == 0xfffe)
