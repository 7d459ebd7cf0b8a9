use Rattle.std.proofs.Common.{◌≡◌, ◌≢◌, ◌∷◌, [], Some, None, Ok, Err, Bor, List, ℕ, Option, Result, codes, inl, inr, sym, ap, subst, ◌∙◌, refl, rules}
use Rattle.std.specs.Str.{IsUtf8}
use Rattle.std.specs.Str.Iter.{split_whitespace_rest, split_whitespace_steps}
use Rattle.std.specs.declared.str.SplitWhitespace.{SplitWhitespace}
use Rattle.answers.specs.declared.asked.BadLine.{BadLine}
use Rattle.answers.specs.declared.asked.BadLine.TheVariants.{UnknownCommand}
use Rattle.frames.specs.declared.uplink.Uplink.{Uplink}
use Rattle.lines.specs.Writes.{AsksMessage, AsksToWrite}
use Rattle.spelling.specs.Failed.{UnlessShort}
use Rattle.spelling.specs.Words.{OfWords}
use Rattle.spelling.specs.declared.failed.Failed.{Failed}
use Rattle.spelling.specs.declared.failed.Failed.TheVariants.{Bad, Memory}
use Rattle.spelling.proofs.Cutting.{cut_word, text_cut, text_left}
use Rattle.lines.proofs.commands.asked.Goals.{in_default-via-in-Some+in_default, in_default-via-in_default}
use Rattle.lines.proofs.commands.asked.Goals as goal

-- a message behind `write`
found : (s t : SplitWhitespace) (word : Bor (List ℕ)) (r : Result Uplink (Failed BadLine))
    → split_whitespace_steps s (Some word) t → word.now ≡ codes "write" → UnlessShort r (λ r. OfWords t (λ words. AsksMessage words r))
    → UnlessShort r (λ r. OfWords s (λ words. AsksToWrite words r))
found s t word (Ok message) step is asks = (word.now ∷ asks.0, cut_word s t word asks.0 step asks.1, inl (is, asks.2))
found s t word (Err (Bad reason)) step is asks = (word.now ∷ asks.0, cut_word s t word asks.0 step asks.1, inl (is, asks.2))
found s t word (Err (Memory error)) step is asks = tt

-- any other word, or none
unknown : (s t : SplitWhitespace) (o : Option (Bor (List ℕ))) → split_whitespace_steps s o t → IsUtf8 (split_whitespace_rest s) → ((word : Bor (List ℕ)) → o ≡ Some word → word.now ≢ codes "write")
    → OfWords s (λ words. AsksToWrite words (Err UnknownCommand))
unknown s t None step utf8 other = ([], step.1, refl)
unknown s t (Some word) step utf8 other =
    let more = text_cut (split_whitespace_rest t) (text_left s t word step utf8) in
    (word.now ∷ more.0, cut_word s t word more.0 step more.1, inr (other word refl, refl))

some_same : (x y : Bor (List ℕ)) → Some x ≡ Some y → x ≡ y
some_same x y e = cc

none_some : (x : Bor (List ℕ)) → None ≡ Some x → ⊥
none_some x e = cc

pub returns-in-Some-write : goal.returns-in-Some-write
returns-in-Some-write c = record {
  value = found c.args.words c.next.new.self c.in-Some-write.field-0 c.message_in.result c.in-Some-write.ensures.steps c.in-Some-write.is-write c.message_in.ensures.value;
}

pub returns-in_default : goal.returns-in_default
returns-in_default c =
    let utf8 : IsUtf8 (split_whitespace_rest c.args.words) = search rules in
    let other : (word : Bor (List ℕ)) → c.next.result ≡ Some word → word.now ≢ codes "write" = λ word is same.
    elim c.in_default.branch [ in_default-via-in-Some+in_default w ↦ let one : word.now ≡ w.in_default.field-0.now = ap (λ z. z.now) (some_same _ _ (sym is ∙ w.in_default.is)) in w.in_default.not-write (cc) | in_default-via-in_default w ↦ absurd (none_some word (sym w.in_default.is ∙ is)) ] in
    let e : Err c.into.result ≡ Err (Bad UnknownCommand) = search rules in
    record {
      value = subst (λ z. UnlessShort {X = Uplink} z (λ r. OfWords c.args.words (λ words. AsksToWrite words r))) (sym e) (unknown c.args.words c.next.new.self c.next.result c.next.ensures.steps utf8 other);
    }
