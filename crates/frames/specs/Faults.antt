-- What the host is told of a frame that is refused.
use Rattle.std.specs.Prelude.{ℕ}
use Rattle.vocabulary.specs.declared.refusals.Refusal.{Refusal}
use Rattle.vocabulary.specs.declared.refusals.Layer.TheVariants.{Frame}
use Rattle.frames.specs.declared.faults.ElementFault.TheVariants as element
use Rattle.frames.specs.declared.faults.FrameFault.{FrameFault}
use Rattle.frames.specs.declared.faults.FrameFault.TheVariants.{Length, UnknownFrame, Cut, BadValue, Element}

-- the number of each refusal
abbrev pub number : FrameFault → ℕ
number Length = 11
number UnknownFrame = 12
number (Cut octet) = 13
number (BadValue octet) = 14
number (Element (element.Cut octet)) = 13
number (Element (element.BadValue octet)) = 14
number (Element (element.UnknownTag octet)) = 15

-- the octet that is at fault: the first of the frame where the frame as a whole is
abbrev pub octet_at : FrameFault → ℕ
octet_at Length = 1
octet_at UnknownFrame = 1
octet_at (Cut octet) = octet
octet_at (BadValue octet) = octet
octet_at (Element (element.Cut octet)) = octet
octet_at (Element (element.BadValue octet)) = octet
octet_at (Element (element.UnknownTag octet)) = octet

abbrev pub refusal_of : FrameFault → Refusal
refusal_of f = record { number = number f; layer = Frame; octet = octet_at f }
