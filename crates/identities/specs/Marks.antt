-- Which bits and digits are a lawful identity. A mark says that there is none, and is never a value.
use Rattle.std.specs.Prelude.{ℕ, ◌+◌, Bool, cond, ◌&&◌, List, [], ◌∷◌, length, ◌==◌, nat_le, nat_lt}
use Rattle.vocabulary.specs.Marks.{digit}

-- a TMSI or P-TMSI: 32 bits, not all ones
abbrev pub lawful_tmsi : ℕ → Bool
lawful_tmsi n = nat_lt n 0xffff_ffff

-- a P-TMSI signature: 24 bits, not all ones
abbrev pub lawful_signature : ℕ → Bool
lawful_signature n = nat_lt n 0xff_ffff

-- a ciphering key sequence number: 0 to 6, since 7 is the mark
abbrev pub lawful_key : ℕ → Bool
lawful_key n = nat_lt n 7

-- what a place of an IMSI may hold: a digit in the first n places, and the filler F in the others
abbrev pub place_fits : ℕ → ℕ → ℕ → Bool
place_fits n i d = cond (nat_lt i n) (digit d) (d == 15)

-- the places from place i on hold digits up to place n, and the filler after it
abbrev pub digits_then_filler : ℕ → ℕ → List ℕ → Bool
digits_then_filler n i [] = nat_le n i
digits_then_filler n i (d ∷ ds) = place_fits n i d && digits_then_filler n (i + 1) ds

-- an IMSI: 6 to 15 digits, in fifteen places
abbrev pub lawful_imsi : List ℕ → ℕ → Bool
lawful_imsi ds n = nat_le 6 n && (nat_le n 15 && (length ds == 15 && digits_then_filler n 0 ds))
