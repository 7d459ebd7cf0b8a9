-- The GPRS timer octet: three bits of unit, five bits of count.
use Rattle.std.specs.Prelude.{ℕ, ◌*◌, ◌/◌, ◌%◌, cond, ◌==◌}

-- the seconds of one unit; 7 is a timer that does not run, and a unit that has no meaning counts as a minute
abbrev pub unit_seconds : ℕ → ℕ
unit_seconds u = cond (u == 0) 2 (cond (u == 2) 360 (cond (u == 7) 0 60))

abbrev pub gprs_seconds : ℕ → ℕ
gprs_seconds octet = octet % 32 * unit_seconds (octet / 32)
