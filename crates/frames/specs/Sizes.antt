-- The sizes of what a modem says of itself.
use Rattle.std.specs.Prelude.{ℕ, Bool, ◌&&◌, List, length, ◌==◌}

-- network capability and DRX parameter of two octets, radio access capability of twelve
abbrev pub terminal_sized : List ℕ → List ℕ → List ℕ → Bool
terminal_sized capability drx radio = length capability == 2 && (length drx == 2 && length radio == 12)
