-- How an element is laid out after its tag, and which elements are known.
use Rattle.std.specs.Prelude.{ℕ, ◌+◌, ◌-◌, cond, ◌||◌, List, take, drop, ◌==◌, nat_le, nat_lt, slice_index}
use Rattle.frames.specs.declared.tags.Side.{Side}
use Rattle.frames.specs.declared.tags.Side.TheVariants.{Packet, Circuit}
use Rattle.frames.specs.declared.tags.Layout.{Layout}
use Rattle.frames.specs.declared.tags.Layout.TheVariants.{Alone, Fixed, Lengthed}
use Rattle.frames.specs.declared.tags.Known.{Known}
use Rattle.frames.specs.declared.tags.Known.TheVariants.{PTmsiSignature, PTmsi, T3302, Identity, Equivalents, Skipped, BelowTen}

-- tags from 80 stand alone; on the packet side 19 has three octets, 17 and 25 one; all others have a length octet
abbrev pub layout_of : Side → ℕ → Layout
layout_of Packet tag =
    cond (nat_le 0x80 tag) Alone (cond (tag == 0x19) (Fixed 3) (cond (tag == 0x17 || tag == 0x25) (Fixed 1) Lengthed))
layout_of Circuit tag = cond (nat_le 0x80 tag) Alone Lengthed

-- where the value begins and where the element ends, counted from the octet after the tag
abbrev pub begin : Layout → ℕ
begin Alone = 0
begin (Fixed n) = 0
begin Lengthed = 1

abbrev pub end : Layout → List ℕ → ℕ
end Alone after = 0
end (Fixed n) after = n
end Lengthed after = 1 + slice_index after 0

abbrev pub value_in : Layout → List ℕ → List ℕ
value_in how after = take (end how after - begin how) (drop (begin how) after)

-- the elements that are known on each side; an unknown tag below 10 is refused, any other unknown one skipped
abbrev pub low_or_skipped : ℕ → Known
low_or_skipped tag = cond (nat_lt tag 0x10) BelowTen Skipped

abbrev pub meaning : Side → ℕ → Known
meaning Packet tag =
    cond (tag == 0x19) PTmsiSignature
    (cond (tag == 0x18) PTmsi (cond (tag == 0x2a) T3302 (cond (tag == 0x4a) Equivalents (low_or_skipped tag))))
meaning Circuit tag = cond (tag == 0x17) Identity (cond (tag == 0x4a) Equivalents (low_or_skipped tag))
