-- Decimal digits.
use Rattle.std.specs.Prelude.{ℕ, ◌-◌, cond, ◌&&◌, nat_le}

-- the value of a digit; any other character counts as the filler, which is no digit
abbrev pub digit_value : ℕ → ℕ
digit_value c = cond (nat_le 48 c && nat_le c 57) (c - 48) 15
