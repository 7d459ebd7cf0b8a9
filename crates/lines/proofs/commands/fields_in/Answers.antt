use Rattle.std.proofs.Common.{◌≡◌, ◌∷◌, Some, Ok, Err, Bor, List, ℕ, Result, sym, subst, refl, rules}
use Rattle.std.specs.Str.{IsUtf8}
use Rattle.std.specs.Str.Iter.{split_whitespace_rest, split_whitespace_steps}
use Rattle.std.specs.declared.str.SplitWhitespace.{SplitWhitespace}
use Rattle.answers.specs.declared.asked.BadLine.{BadLine}
use Rattle.lines.specs.Writes.{Takes, TakesAll, no_fields}
use Rattle.lines.specs.declared.fields.Fields.{Fields}
use Rattle.lines.specs.declared.words.Kind.{Kind}
use Rattle.spelling.specs.Failed.{UnlessShort}
use Rattle.spelling.specs.Words.{OfWords}
use Rattle.spelling.specs.declared.failed.Failed.{Failed}
use Rattle.spelling.specs.declared.failed.Failed.TheVariants.{Bad, Memory}
use Rattle.spelling.proofs.Cutting.{cut_word, text_cut, text_left}
use Rattle.lines.proofs.commands.fields_in.Goals as goal

-- the first word that is bad tells of all
stopped : (kind : Kind) (f g : Fields) (s t : SplitWhitespace) (word : Bor (List ℕ)) (e : Failed BadLine)
    → split_whitespace_steps s (Some word) t → IsUtf8 (split_whitespace_rest s) → UnlessShort {X = Unit {0}} (Err e) (λ r. Takes kind f word.now r g)
    → UnlessShort {X = Fields} (Err e) (λ r. OfWords s (λ words. TakesAll kind f words r))
stopped kind f g s t word (Bad reason) step utf8 takes =
    let more = text_cut (split_whitespace_rest t) (text_left s t word step utf8) in
    (word.now ∷ more.0, cut_word s t word more.0 step more.1, (Err reason, g, takes, refl))
stopped kind f g s t word (Memory error) step utf8 takes = tt

first : (kind : Kind) (f : Fields) (all s : SplitWhitespace) (e : Failed BadLine)
    → ((r : Result Fields BadLine) → OfWords s (λ words. TakesAll kind f words r) → OfWords all (λ words. TakesAll kind no_fields words r))
    → UnlessShort {X = Fields} (Err e) (λ r. OfWords s (λ words. TakesAll kind f words r)) → UnlessShort {X = Fields} (Err e) (λ r. OfWords all (λ words. TakesAll kind no_fields words r))
first kind f all s (Bad reason) left found = left (Err reason) found
first kind f all s (Memory error) left found = tt

pub loop-word-preserved : goal.loop-word-preserved
loop-word-preserved c =
    let s = c.loop-word.word-iterator in
    let step = c.in-Some.ensures.steps in
    record {
      utf8 = text_left s c.next.new.self c.in-Some.word step c.loop-word.invariant.utf8;
      left = λ r after.
          c.loop-word.invariant.left r (c.in-Some.word.now ∷ after.0, cut_word s c.next.new.self c.in-Some.word after.0 step after.1, (Ok c.in_ok-take.field-0, c.take.new.self, c.in_ok-take.ensures.value, after.2));
    }

pub returns-in_err-take : goal.returns-in_err-take
returns-in_err-take c =
    let e : c.from_residual.result ≡ Err c.in_err-take.field-0.0 = search rules in
    let s = c.loop-word.word-iterator in
    let found = stopped c.args.kind c.loop-word.fields c.take.new.self s c.next.new.self c.in-Some.word c.in_err-take.field-0.0 c.in-Some.ensures.steps c.loop-word.invariant.utf8 c.in_err-take.ensures.value in
    record {
      value = subst (λ z. UnlessShort z (λ r. OfWords c.args.words (λ words. TakesAll c.args.kind no_fields words r))) (sym e)
          (first c.args.kind c.loop-word.fields c.args.words s c.in_err-take.field-0.0 c.loop-word.invariant.left found);
    }
