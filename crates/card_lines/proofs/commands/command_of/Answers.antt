use Rattle.std.proofs.Common.{◌≡◌, ◌∷◌, [], Some, Ok, Err, Bor, List, ℕ, Result, IfOk, sym, subst, rules}
use Rattle.std.specs.Str.{IsUtf8}
use Rattle.std.specs.Str.Iter.{split_whitespace_rest, split_whitespace_steps}
use Rattle.std.specs.declared.str.SplitWhitespace.{SplitWhitespace}
use Rattle.card_lines.specs.Commands.{Asks, Loads, Writes}
use Rattle.card_lines.specs.declared.commands.Command.{Command}
use Rattle.card_lines.specs.declared.faults.BadCommand.{BadCommand}
use Rattle.card_lines.specs.declared.words.Verb.{Verb}
use Rattle.card_lines.specs.declared.words.Verb.TheVariants as verb
use Rattle.spelling.specs.Failed.{UnlessShort}
use Rattle.spelling.specs.Words.{OfWords}
use Rattle.spelling.specs.declared.failed.Failed.{Failed}
use Rattle.spelling.specs.declared.failed.Failed.TheVariants.{Bad, Memory}
use Rattle.spelling.proofs.Cutting.{cut_word, text_cut, text_left}
use Rattle.card_lines.proofs.commands.command_of.Goals as goal

abbrev Told : Verb → SplitWhitespace → Result Command (Failed BadCommand) → Type 0
Told v s r = UnlessShort r (λ r. OfWords s (λ words. Asks v words r))

-- whatever the words are that give a card or parts of one
loads : (s : SplitWhitespace) (r : Result Command (Failed BadCommand)) → IsUtf8 (split_whitespace_rest s) → IfOk r Loads → Told verb.Load s r
loads s (Ok command) utf8 h = let all = text_cut (split_whitespace_rest s) utf8 in (all.0, all.1, h)
loads s (Err (Bad reason)) utf8 h = let all = text_cut (split_whitespace_rest s) utf8 in (all.0, all.1, tt)
loads s (Err (Memory error)) utf8 h = tt

writes : (s : SplitWhitespace) (r : Result Command (Failed BadCommand)) → IsUtf8 (split_whitespace_rest s) → IfOk r Writes → Told verb.Write s r
writes s (Ok command) utf8 h = let all = text_cut (split_whitespace_rest s) utf8 in (all.0, all.1, h)
writes s (Err (Bad reason)) utf8 h = let all = text_cut (split_whitespace_rest s) utf8 in (all.0, all.1, tt)
writes s (Err (Memory error)) utf8 h = tt

-- two words behind a verb tell as much as more of them
any_more : (v : Verb) (a b : List ℕ) (words : List (List ℕ)) (r : Result Command BadCommand) → Asks v (a ∷ (b ∷ [])) r → Asks v (a ∷ (b ∷ words)) r
any_more verb.Load a b words r h = h
any_more verb.Write a b words r h = h
any_more verb.Eject a b words r h = h
any_more verb.Forbid a b words r h = h
any_more verb.Permit a b words r h = h
any_more verb.Show a b words r h = h
any_more verb.Octets a b words r h = h
any_more verb.Copy a b words r h = h
any_more verb.Damage a b words r h = h

two : (v : Verb) (s t u : SplitWhitespace) (a b : Bor (List ℕ)) (r : Result Command BadCommand)
    → split_whitespace_steps s (Some a) t → split_whitespace_steps t (Some b) u → IsUtf8 (split_whitespace_rest s) → Asks v (a.now ∷ (b.now ∷ [])) r → OfWords s (λ words. Asks v words r)
two v s t u a b r first second utf8 h =
    let more = text_cut (split_whitespace_rest u) (text_left t u b second (text_left s t a first utf8)) in
    (a.now ∷ (b.now ∷ more.0), cut_word s t a (b.now ∷ more.0) first (cut_word t u b more.0 second more.1), any_more v a.now b.now more.0 r h)

too_many : (v : Verb) (s t u : SplitWhitespace) (a b : Bor (List ℕ)) (r : Result Command (Failed BadCommand))
    → split_whitespace_steps s (Some a) t → split_whitespace_steps t (Some b) u → IsUtf8 (split_whitespace_rest s) → UnlessShort r (Asks v (a.now ∷ (b.now ∷ []))) → Told v s r
too_many v s t u a b (Ok command) first second utf8 h = two v s t u a b (Ok command) first second utf8 h
too_many v s t u a b (Err (Bad reason)) first second utf8 h = two v s t u a b (Err reason) first second utf8 h
too_many v s t u a b (Err (Memory error)) first second utf8 h = tt

pub returns-in_err-parts_in-in-Load : goal.returns-in_err-parts_in-in-Load
returns-in_err-parts_in-in-Load c =
    let utf8 : IsUtf8 (split_whitespace_rest c.args.words) = search rules in
    let e : c.from_residual.result ≡ Err c.in_err-parts_in-in-Load.field-0.0 = search rules in
    let told = loads c.args.words (Err c.in_err-parts_in-in-Load.field-0.0) utf8 tt in
    record { value = subst (λ z. Told c.args.verb c.args.words z) (sym e) (subst (λ z. Told z c.args.words (Err c.in_err-parts_in-in-Load.field-0.0)) (sym c.in-Load.is) told) }

pub returns-in_err-parts_in-in-Write : goal.returns-in_err-parts_in-in-Write
returns-in_err-parts_in-in-Write c =
    let utf8 : IsUtf8 (split_whitespace_rest c.args.words) = search rules in
    let e : c.from_residual-in_err-parts_in-in-Write.result ≡ Err c.in_err-parts_in-in-Write.field-0.0 = search rules in
    let told = writes c.args.words (Err c.in_err-parts_in-in-Write.field-0.0) utf8 tt in
    record { value = subst (λ z. Told c.args.verb c.args.words z) (sym e) (subst (λ z. Told z c.args.words (Err c.in_err-parts_in-in-Write.field-0.0)) (sym c.in-Write.is) told) }

pub returns-in_ok-parts_in-in-Load : goal.returns-in_ok-parts_in-in-Load
returns-in_ok-parts_in-in-Load c =
    let utf8 : IsUtf8 (split_whitespace_rest c.args.words) = search rules in
    record { value = subst (λ z. Told z c.args.words c.load.result) (sym c.in-Load.is) (loads c.args.words c.load.result utf8 c.load.ensures.value) }

pub returns-in_ok-write-in-Write : goal.returns-in_ok-write-in-Write
returns-in_ok-write-in-Write c =
    let utf8 : IsUtf8 (split_whitespace_rest c.args.words) = search rules in
    let command : Result Command (Failed BadCommand) = Ok c.in_ok-write-in-Write.field-0 in
    record { value = subst (λ z. Told z c.args.words command) (sym c.in-Write.is) (writes c.args.words command utf8 c.in_ok-write-in-Write.ensures.value) }

pub returns-in-Some-Some : goal.returns-in-Some-Some
returns-in-Some-Some c =
    let utf8 : IsUtf8 (split_whitespace_rest c.args.words) = search rules in
    let told = too_many c.args.verb c.args.words c.next.new.self c.next-in_default.new.self c.in-Some-Some.word c.in-Some-Some.more c.short_command-in-Some-Some.result c.in-Some-Some.ensures.steps c.in-Some-Some.ensures'.steps utf8 c.short_command-in-Some-Some.ensures.value in
    record { value = told }
