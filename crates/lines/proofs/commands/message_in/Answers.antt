use Rattle.std.proofs.Common.{◌≡◌, ◌∷◌, Some, None, Ok, Err, Bor, List, ℕ, Result, sym, ap, subst, refl, rules}
use Rattle.std.specs.Str.{IsUtf8}
use Rattle.std.specs.Str.Iter.{split_whitespace_rest, split_whitespace_steps}
use Rattle.std.specs.declared.str.SplitWhitespace.{SplitWhitespace}
use Rattle.answers.specs.declared.asked.BadLine.{BadLine}
use Rattle.frames.specs.declared.uplink.Uplink.{Uplink}
use Rattle.lines.specs.Words.{kind_word}
use Rattle.lines.specs.Writes.{AsksMessage, Makes, TakesAll, no_fields}
use Rattle.lines.specs.declared.fields.Fields.{Fields}
use Rattle.lines.specs.declared.words.Kind.{Kind}
use Rattle.spelling.specs.Failed.{UnlessShort}
use Rattle.spelling.specs.Words.{OfWords}
use Rattle.spelling.specs.declared.failed.Failed.{Failed}
use Rattle.spelling.specs.declared.failed.Failed.TheVariants.{Bad, Memory}
use Rattle.spelling.proofs.Cutting.{cut_word, text_cut, text_left}
use Rattle.lines.proofs.commands.message_in.Goals as goal

-- a bad field tells of the message
unfit : (kind : Kind) (s t : SplitWhitespace) (word : Bor (List ℕ)) (e : Failed BadLine)
    → split_whitespace_steps s (Some word) t → word.now ≡ kind_word kind → UnlessShort {X = Fields} (Err e) (λ r. OfWords t (λ words. TakesAll kind no_fields words r))
    → UnlessShort {X = Uplink} (Err e) (λ r. OfWords s (λ words. AsksMessage words r))
unfit kind s t word (Bad reason) step named taken = (word.now ∷ taken.0, cut_word s t word taken.0 step taken.1, (Some kind, named, (Err reason, taken.2, refl)))
unfit kind s t word (Memory error) step named taken = tt

-- the fields make the message
fit : (kind : Kind) (fields : Fields) (s t : SplitWhitespace) (word : Bor (List ℕ)) (r : Result Uplink BadLine)
    → split_whitespace_steps s (Some word) t → word.now ≡ kind_word kind → OfWords t (λ words. TakesAll kind no_fields words (Ok fields)) → Makes kind fields r
    → OfWords s (λ words. AsksMessage words r)
fit kind fields s t word r step named taken makes = (word.now ∷ taken.0, cut_word s t word taken.0 step taken.1, (Some kind, named, (Ok fields, taken.2, makes)))

pub returns-in_err-kind : goal.returns-in_err-kind
returns-in_err-kind c =
    let utf8 : IsUtf8 (split_whitespace_rest c.args.words) = search rules in
    let e : c.from_residual.result ≡ Err (Bad c.in_err-kind.field-0.0) = search rules in
    let step = c.in-Some.ensures.steps in
    let more = text_cut (split_whitespace_rest c.next.new.self) (text_left c.args.words c.next.new.self c.in-Some.kind step utf8) in
    let said = c.in_err-kind.ensures.value in
    record {
      value = subst (λ z. UnlessShort z (λ r. OfWords c.args.words (λ words. AsksMessage words r))) (sym e)
          (c.in-Some.kind.now ∷ more.0, cut_word c.args.words c.next.new.self c.in-Some.kind more.0 step more.1, (None, said.0, ap (λ z. Err z) said.1));
    }

pub returns-in_err-fields_in : goal.returns-in_err-fields_in
returns-in_err-fields_in c =
    let e : c.from_residual-in_err-fields_in.result ≡ Err c.in_err-fields_in.field-0.0 = search rules in
    record {
      value = subst (λ z. UnlessShort z (λ r. OfWords c.args.words (λ words. AsksMessage words r))) (sym e)
          (unfit c.in_ok-kind.kind c.args.words c.next.new.self c.in-Some.kind c.in_err-fields_in.field-0.0 c.in-Some.ensures.steps c.in_ok-kind.ensures.value.0 c.in_err-fields_in.ensures.value);
    }

pub returns-in_err-made : goal.returns-in_err-made
returns-in_err-made c =
    let e : c.from_residual-in_err-made.result ≡ Err (Bad c.in_err-made.field-0.0) = search rules in
    record {
      value = subst (λ z. UnlessShort z (λ r. OfWords c.args.words (λ words. AsksMessage words r))) (sym e)
          (fit c.in_ok-kind.kind c.in_ok-fields_in.field-0 c.args.words c.next.new.self c.in-Some.kind (Err c.in_err-made.field-0.0) c.in-Some.ensures.steps c.in_ok-kind.ensures.value.0 c.in_ok-fields_in.ensures.value c.in_err-made.ensures.value);
    }

pub returns : goal.returns
returns c = record {
  value = fit c.in_ok-kind.kind c.in_ok-fields_in.field-0 c.args.words c.next.new.self c.in-Some.kind (Ok c.in_ok-made.field-0) c.in-Some.ensures.steps c.in_ok-kind.ensures.value.0 c.in_ok-fields_in.ensures.value c.in_ok-made.ensures.value;
}
