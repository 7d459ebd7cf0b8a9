use Rattle.std.proofs.Common.{◌∙◌, subst, rules}
use Rattle.std.specs.Str.Iter.{split_whitespace_rest}
use Rattle.spelling.specs.Words.{CutsInto}
use Rattle.spelling.proofs.Cutting.{text_cut}
use Rattle.spelling.proofs.words.words_in.Goals as goal

pub returns : goal.returns
returns c =
    let text = c.split_whitespace.ensures.rest ∙ c.uncommented.ensures.value in
    let found = text_cut (split_whitespace_rest c.split_whitespace.result) (search rules) in
    record { value = (found.0, found.1, subst (λ z. CutsInto z found.0) text found.1); rest = text }
