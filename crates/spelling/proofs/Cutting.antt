-- The words that the library cuts a text into.
use Rattle.std.proofs.Common.{◌≡◌, ℕ, ◌<◌, true, false, inl, inr, List, [], ◌∷◌, ◌++◌, length, map, None, Some, Ok, Err, Result, Vec, vec_items, vec_len, IfOk, Bor, refl, sym, ap, subst, ◌∙◌, append_assoc, append-nil, length-append, arith}
use Rattle.std.proofs.lemmas.Bool.{and_parts, cases_Bool, not-false, not_from_true}
use Rattle.std.proofs.lemmas.Str.{IsUtf8-past_char, NoCharPasses-nil, cons_from_encodes, length-encode, len_utf8_bounds}
use Rattle.std.specs.Char.{encode_utf8, is_whitespace, is_not_whitespace}
use Rattle.std.specs.Iterator.{Yields, DrainsIf}
use Rattle.std.specs.Str.{EmptyOrStartsWithPassing, IsUtf8, NoCharPasses, NonePass, all_scalars, encode_utf8_all}
use Rattle.std.specs.Str.Iter.{split_whitespace_rest, split_whitespace_steps}
use Rattle.std.specs.declared.str.SplitWhitespace.{SplitWhitespace}
use Rattle.spelling.specs.Words.{CutsInto}

-- ---- each text is cut into words

-- white space before a text leaves its words as they are
after_space : (c : ℕ) (text : List ℕ) (words : List (List ℕ)) → is_whitespace c ≡ true → CutsInto text words → CutsInto (encode_utf8 c ++ text) words
after_space c text [] white cut = (c ∷ cut.0, ap (λ z. encode_utf8 c ++ z) cut.1, (not_from_true _ white, cut.2))
after_space c text (word ∷ words) white cut = (
  encode_utf8 c ++ cut.0,
  cut.1,
  ap (λ z. encode_utf8 c ++ z) cut.2 ∙ sym (append_assoc (encode_utf8 c) cut.0 (word ++ cut.1)),
  cut.3,
  (c ∷ cut.4.0, ap (λ z. encode_utf8 c ++ z) cut.4.1, (not_from_true _ white, cut.4.2)),
  cut.5,
  cut.6,
  cut.7,
)

some_bytes : (c : ℕ) → 0 < length (encode_utf8 c)
some_bytes c = omega (arith, length-encode c, (len_utf8_bounds c).0)

-- a text that begins with white space
starts : (cs gap after gs : List ℕ) → all_scalars cs ≡ true → (0 < length (encode_utf8_all cs) → 0 < length gap) → encode_utf8_all gs ≡ gap → NonePass is_not_whitespace gs → encode_utf8_all cs ≡ gap ++ after → (more : List ℕ) × EmptyOrStartsWithPassing is_whitespace (encode_utf8_all cs) more
starts cs gap after [] ok some spells white e = ([], λ l. absurd (omega (arith, some l, ap length spells)))
starts cs gap after (g ∷ gs) ok some spells white e =
    let front : encode_utf8_all cs ≡ encode_utf8 g ++ (encode_utf8_all gs ++ after) = e ∙ ap (λ z. z ++ after) (sym spells) ∙ append_assoc (encode_utf8 g) (encode_utf8_all gs) after in
    let found = cons_from_encodes cs (encode_utf8_all gs ++ after) g front in
    let parts = and_parts _ _ (subst (λ z. all_scalars z ≡ true) found.1 ok) in
    (encode_utf8_all gs ++ after, λ l. (g, not-false _ white.0, front, parts.0))

-- one more character before a text, that is no white space: it begins the first word, or is a word before it
longer : (c : ℕ) (cs word : List ℕ) (words : List (List ℕ)) (gap rest : List ℕ) → is_whitespace c ≡ false → all_scalars cs ≡ true → encode_utf8_all cs ≡ gap ++ (word ++ rest) → 0 < length word → NoCharPasses is_not_whitespace gap → NoCharPasses is_whitespace word → (more : List ℕ) × EmptyOrStartsWithPassing is_whitespace rest more → CutsInto rest words → (all : List (List ℕ)) × CutsInto (encode_utf8 c ++ encode_utf8_all cs) all
longer c cs word words [] rest black ok e some white none more cut = (
  (encode_utf8 c ++ word) ∷ words,
  (
    [],
    rest,
    ap (λ z. encode_utf8 c ++ z) e ∙ sym (append_assoc (encode_utf8 c) word rest),
    omega (arith, length-append (encode_utf8 c) word, some),
    white,
    (c ∷ none.0, ap (λ z. encode_utf8 c ++ z) none.1, (black, none.2)),
    more,
    cut,
  ),
)
longer c cs word words (g ∷ gap) rest black ok e some white none more cut = (
  encode_utf8 c ∷ (word ∷ words),
  (
    [],
    encode_utf8_all cs,
    refl,
    some_bytes c,
    NoCharPasses-nil _,
    (c ∷ [], append-nil (encode_utf8 c), (black, tt)),
    starts cs (g ∷ gap) (word ++ rest) white.0 ok (λ l. omega arith) white.1 white.2 e,
    (g ∷ gap, rest, e, some, white, none, more, cut),
  ),
)

in_word : (c : ℕ) (cs : List ℕ) (words : List (List ℕ)) → is_whitespace c ≡ false → all_scalars cs ≡ true → CutsInto (encode_utf8_all cs) words → (all : List (List ℕ)) × CutsInto (encode_utf8 c ++ encode_utf8_all cs) all
in_word c cs [] black ok cut = (
  encode_utf8 c ∷ [],
  (
    [],
    encode_utf8_all cs,
    refl,
    some_bytes c,
    NoCharPasses-nil _,
    (c ∷ [], append-nil (encode_utf8 c), (black, tt)),
    starts cs (encode_utf8_all cs) [] cut.0 ok (λ l. l) cut.1 cut.2 (sym (append-nil (encode_utf8_all cs))),
    cut,
  ),
)
in_word c cs (word ∷ words) black ok cut = longer c cs word words cut.0 cut.1 black ok cut.2 cut.3 cut.4 cut.5 cut.6 cut.7

all_cut : (cs : List ℕ) → all_scalars cs ≡ true → (words : List (List ℕ)) × CutsInto (encode_utf8_all cs) words
all_cut [] ok = ([], NoCharPasses-nil _)
all_cut (c ∷ cs) ok =
    let parts = and_parts _ _ ok in
    let more = all_cut cs parts.1 in
    elim (cases_Bool (is_whitespace c)) [ inl white ↦ (more.0, after_space c (encode_utf8_all cs) more.0 white more.1) | inr black ↦ in_word c cs more.0 black parts.1 more.1 ]

pub text_cut : (text : List ℕ) → IsUtf8 text → (words : List (List ℕ)) × CutsInto text words
text_cut text utf8 =
    let found = all_cut utf8.0 utf8.1.0 in
    (found.0, subst (λ z. CutsInto z found.0) utf8.1.1 found.1)

-- ---- one word after the other

-- the word that comes is the first one
pub cut_word : (s t : SplitWhitespace) (x : Bor (List ℕ)) (words : List (List ℕ)) → split_whitespace_steps s (Some x) t → CutsInto (split_whitespace_rest t) words → CutsInto (split_whitespace_rest s) (x.now ∷ words)
cut_word s t x words step cut = (step.0, split_whitespace_rest t, step.1, step.2, step.3, step.4, step.5, cut)

past_all : (cs text rest : List ℕ) → IsUtf8 text → text ≡ encode_utf8_all cs ++ rest → IsUtf8 rest
past_all [] text rest utf8 e = subst IsUtf8 e utf8
past_all (c ∷ cs) text rest utf8 e =
    let front = e ∙ append_assoc (encode_utf8 c) (encode_utf8_all cs) rest in
    past_all cs (encode_utf8_all cs ++ rest) rest (IsUtf8-past_char text (encode_utf8_all cs ++ rest) c utf8 front) refl

-- what is left behind a word is text
pub text_left : (s t : SplitWhitespace) (x : Bor (List ℕ)) → split_whitespace_steps s (Some x) t → IsUtf8 (split_whitespace_rest s) → IsUtf8 (split_whitespace_rest t)
text_left s t x step utf8 =
    let behind = x.now ++ split_whitespace_rest t in
    let from_word = past_all step.3.0 (split_whitespace_rest s) behind utf8 (step.1 ∙ ap (λ z. z ++ behind) (sym step.3.1)) in
    past_all step.4.0 behind (split_whitespace_rest t) from_word (ap (λ z. z ++ split_whitespace_rest t) (sym step.4.1))

-- ---- all words at once, for who collects them

cut : (s : SplitWhitespace) (xs : List (Bor (List ℕ))) (t u : SplitWhitespace) → Yields split_whitespace_steps s xs t → split_whitespace_steps t None u → CutsInto (split_whitespace_rest s) (map (λ x. x.now) xs)
cut s [] t u e stop = subst (λ z. NoCharPasses is_not_whitespace (split_whitespace_rest z)) (sym e) stop.1
cut s (x ∷ xs) t u run stop = cut_word s run.0 x (map (λ x. x.now) xs) run.1 (cut run.0 xs t u run.2 stop)

-- who collects what a text is cut into has its words
pub cut_from_collect : {Z E : Type 0} (r : Result (Vec (Bor (List ℕ)) Z) E) (s : SplitWhitespace) (text : List ℕ) → split_whitespace_rest s ≡ text → IfOk r (λ v. (xs : List (Bor (List ℕ))) × DrainsIf split_whitespace_steps (Unit {0}) s xs × ((vec_items v ≡ xs) × (vec_len v ≡ length xs))) → IfOk r (λ v. CutsInto text (map (λ x. x.now) (vec_items v)))
cut_from_collect (Ok v) s text e ran =
    let stop = ran.1.2 tt in
    let found = cut s ran.0 ran.1.0 stop.0 ran.1.1 stop.1 in
    let at_text = subst (λ z. CutsInto z (map (λ (x : Bor (List ℕ)). x.now) ran.0)) e found in
    subst (λ zs. CutsInto text (map (λ (x : Bor (List ℕ)). x.now) zs)) (sym ran.2.0) at_text
cut_from_collect (Err e) s text f ran = tt
