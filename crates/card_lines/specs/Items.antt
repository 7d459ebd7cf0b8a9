-- The items of a part.
use Rattle.std.specs.Prelude.{◌≡◌, ◌≢◌, ℕ, ◌+◌, ◌*◌, ◌⊎◌, List, Some, None, Ok, Err, Option, Result, MatchOption, codes, slice_index}
use Rattle.spelling.specs.Octets.{octets_or_none}
use Rattle.spelling.specs.Sized.{octets_in}
use Rattle.card_lines.specs.declared.faults.BadCommand.{BadCommand}

-- octets, or `-`, which is none
abbrev pub OctetsOrDash : ℕ → List ℕ → BadCommand → Result (Option (List ℕ)) BadCommand → Type 0
OctetsOrDash n text fault r =
    ((text ≡ codes "-") × (r ≡ Ok None)) ⊎ ((text ≢ codes "-") × MatchOption (octets_in n (octets_or_none text)) (r ≡ Err fault) (λ octets. r ≡ Ok (Some octets)))

-- the bits of an identity, the highest octet first
abbrev pub identity_bits : List ℕ → ℕ
identity_bits xs = slice_index xs 0 * 16777216 + slice_index xs 1 * 65536 + slice_index xs 2 * 256 + slice_index xs 3

-- the bits of a signature
abbrev pub signature_bits : List ℕ → ℕ
signature_bits xs = slice_index xs 0 * 65536 + slice_index xs 1 * 256 + slice_index xs 2
