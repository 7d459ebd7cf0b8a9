use Rattle.std.proofs.Common.{◌≡◌, ◌∷◌, Some, None, Ok, Err, Bor, List, ℕ, Result, sym, ap, subst, rules}
use Rattle.std.specs.Str.{IsUtf8}
use Rattle.std.specs.Str.Iter.{split_whitespace_rest, split_whitespace_steps}
use Rattle.std.specs.declared.str.SplitWhitespace.{SplitWhitespace}
use Rattle.card_lines.specs.Commands.{Asks}
use Rattle.card_lines.specs.Lines.{AsksWords}
use Rattle.card_lines.specs.Words.{verb_word}
use Rattle.card_lines.specs.declared.commands.Command.{Command}
use Rattle.card_lines.specs.declared.faults.BadCommand.{BadCommand}
use Rattle.card_lines.specs.declared.words.Verb.{Verb}
use Rattle.spelling.specs.Failed.{UnlessShort}
use Rattle.spelling.specs.Words.{OfWords}
use Rattle.spelling.specs.declared.failed.Failed.{Failed}
use Rattle.spelling.specs.declared.failed.Failed.TheVariants.{Bad, Memory}
use Rattle.spelling.proofs.Cutting.{cut_word, text_cut, text_left}
use Rattle.card_lines.proofs.commands.asked.Goals as goal

-- the first word is the verb
behind : (v : Verb) (s t : SplitWhitespace) (word : Bor (List ℕ)) (r : Result Command (Failed BadCommand))
    → split_whitespace_steps s (Some word) t → word.now ≡ verb_word v → UnlessShort r (λ r. OfWords t (λ words. Asks v words r)) → UnlessShort r (λ r. OfWords s (λ words. AsksWords words r))
behind v s t word (Ok command) step named asks = (word.now ∷ asks.0, cut_word s t word asks.0 step asks.1, (Some v, named, asks.2))
behind v s t word (Err (Bad reason)) step named asks = (word.now ∷ asks.0, cut_word s t word asks.0 step asks.1, (Some v, named, asks.2))
behind v s t word (Err (Memory error)) step named asks = tt

pub returns-in_err-parse-in-Some : goal.returns-in_err-parse-in-Some
returns-in_err-parse-in-Some c =
    let utf8 : IsUtf8 (split_whitespace_rest c.args.words) = search rules in
    let e : c.from_residual.result ≡ Err (Bad c.in_err-parse-in-Some.field-0.0) = search rules in
    let step = c.in-Some.ensures.steps in
    let more = text_cut (split_whitespace_rest c.next.new.self) (text_left c.args.words c.next.new.self c.in-Some.verb step utf8) in
    let said = c.in_err-parse-in-Some.ensures.value in
    record {
      value = subst (λ z. UnlessShort z (λ r. OfWords c.args.words (λ words. AsksWords words r))) (sym e)
          (c.in-Some.verb.now ∷ more.0, cut_word c.args.words c.next.new.self c.in-Some.verb more.0 step more.1, (None, said.0, ap (λ z. Err z) said.1));
    }

pub returns-in_ok-parse-in-Some : goal.returns-in_ok-parse-in-Some
returns-in_ok-parse-in-Some c = record {
  value = behind c.in_ok-parse-in-Some.field-0 c.args.words c.next.new.self c.in-Some.verb c.command_of.result c.in-Some.ensures.steps c.in_ok-parse-in-Some.ensures.value.0 c.command_of.ensures.value;
}
