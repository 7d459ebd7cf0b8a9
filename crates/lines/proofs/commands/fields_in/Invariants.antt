use Rattle.std.proofs.Common.{Result}
use Rattle.std.specs.Str.{IsUtf8}
use Rattle.std.specs.Str.Iter.{split_whitespace_rest}
use Rattle.answers.specs.declared.asked.BadLine.{BadLine}
use Rattle.lines.specs.Writes.{TakesAll, no_fields}
use Rattle.lines.specs.declared.fields.Fields.{Fields}
use Rattle.spelling.specs.Words.{OfWords}
use Rattle.lines.proofs.commands.fields_in.Given as goal

-- what the words that are left come to, all words come to
abbrev pub invariant-loop-word : goal.invariant-loop-word
invariant-loop-word l = record {
  utf8 : IsUtf8 (split_whitespace_rest l.word-iterator);
  left : (r : Result Fields BadLine) → OfWords l.word-iterator (λ words. TakesAll l.kind l.fields words r) → OfWords l.fn.words (λ words. TakesAll l.fn.kind no_fields words r);
}
