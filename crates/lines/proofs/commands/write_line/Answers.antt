use Rattle.std.proofs.Common.{◌≡◌, Ok, Err, List, ℕ, Result, ap, subst}
use Rattle.std.specs.Str.Iter.{split_whitespace_rest}
use Rattle.std.specs.declared.alloc.AllocError.{AllocError}
use Rattle.std.specs.declared.str.SplitWhitespace.{SplitWhitespace}
use Rattle.answers.specs.declared.asked.BadLine.{BadLine}
use Rattle.answers.specs.declared.asked.Line.TheVariants as line
use Rattle.frames.specs.declared.uplink.Uplink.{Uplink}
use Rattle.lines.specs.Writes.{AsksToWrite, Writes}
use Rattle.spelling.specs.Failed.{UnlessShort}
use Rattle.spelling.specs.Words.{CutsInto, OfWords, uncommented}
use Rattle.spelling.specs.declared.failed.Failed.{Failed}
use Rattle.spelling.specs.declared.failed.Failed.TheVariants.{Bad, Memory}
use Rattle.lines.proofs.commands.write_line.Goals as goal

abbrev reason_of : Failed BadLine → Result BadLine AllocError
reason_of (Bad reason) = Ok reason
reason_of (Memory error) = Err error

bad_line : (words : SplitWhitespace) (text : List ℕ) (failed : Failed BadLine) (reason : BadLine)
    → split_whitespace_rest words ≡ uncommented text → UnlessShort {X = Uplink} (Err failed) (λ r. OfWords words (λ all. AsksToWrite all r)) → Ok reason ≡ reason_of failed → Writes text (line.Bad reason)
bad_line words text (Bad fault) reason e found is =
    let same : reason ≡ fault = cc in
    (found.0, subst (λ z. CutsInto z found.0) e found.1, (Err fault, found.2, ap (λ z. line.Bad z) same))
bad_line words text (Memory error) reason e found is = absurd (cc)

pub returns-in_ok-reason-in-Err : goal.returns-in_ok-reason-in-Err
returns-in_ok-reason-in-Err c = record {
  value = bad_line c.words_in.result c.args.text.now c.in-Err.failed c.in_ok-reason-in-Err.field-0 c.words_in.ensures.rest c.in-Err.ensures.value c.in_ok-reason-in-Err.ensures.value;
}
