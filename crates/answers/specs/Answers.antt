-- What is answered to a line.
use Rattle.std.specs.Prelude.{ℕ, List, ◌++◌, length, drop, replicate, Ok, Err, vec_items, Result}
use Rattle.frames.specs.Decoded.{decoded}
use Rattle.frames.specs.Octets.{octets_of}
use Rattle.frames.specs.Faults.{refusal_of}
use Rattle.frames.specs.declared.downlink.Downlink.{Downlink}
use Rattle.frames.specs.declared.uplink.Uplink.{Uplink}
use Rattle.frames.specs.declared.faults.FrameFault.{FrameFault}
use Rattle.answers.specs.declared.answers.Answer.{Answer}
use Rattle.answers.specs.declared.answers.Answer.TheVariants.{Nothing, Read, Refused, Written, Bad}
use Rattle.answers.specs.declared.asked.Line.{Line}
use Rattle.answers.specs.declared.asked.Line.TheVariants as line

-- a frame: what its octets mean, or why they are refused
abbrev pub frame_answer : List ℕ → Answer
frame_answer xs = by (decoded xs)
  where
    by : Result Downlink FrameFault → Answer
    by (Ok message) = Read message
    by (Err fault) = Refused (refusal_of fault)

-- a message: its octets, in an area of 64
abbrev pub message_answer : Uplink → Answer
message_answer m = Written m (record { area = octets_of m ++ drop (length (octets_of m)) (replicate 64 0); len = length (octets_of m) })

abbrev pub answer_to : Line → Answer
answer_to line.Blank = Nothing
answer_to (line.Frame octets) = frame_answer (vec_items octets)
answer_to (line.Write message) = message_answer message
answer_to (line.Bad reason) = Bad reason
