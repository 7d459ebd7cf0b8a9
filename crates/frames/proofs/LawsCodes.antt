-- A value that is read out of octets is coded by the same octets.
use Rattle.std.proofs.Common.{◌≡◌, ℕ, ◌+◌, ◌*◌, ◌/◌, ◌%◌, ◌<◌, Bool, true, false, cond, eqb, List, [], ◌∷◌, length, get_or, Some, None, Option, sym, refl, ap, ◌∙◌, arith}
use Rattle.std.proofs.lemmas.List.{take_all}
use Rattle.std.proofs.lemmas.Bool.{eqb-true, and_parts}
use Rattle.identities.specs.Identities.{four_octets, three_octets, tmsi_when, tmsi_of, signature_when, signature_of}
use Rattle.identities.specs.Marks.{lawful_tmsi, lawful_signature}
use Rattle.vocabulary.specs.Timers.{gprs_seconds}
use Rattle.identities.specs.declared.values.Signature.{Signature}
use Rattle.identities.specs.declared.values.Tmsi.{Tmsi}
use Rattle.frames.specs.LawsValues.{CodesTmsi, CodesSignature, CodesTimer}
use Rattle.frames.specs.Values.{coded_tmsi, tmsi_value, signature_value, timer_value}
use Rattle.vocabulary.proofs.Inversions.{when_some}
use Rattle.frames.proofs.LawsAreas.{from, take_from}
use Rattle.frames.proofs.LawsElements.{Octets}

pub cond_some : {X : Type 0} (b : Bool) (o : Option X) (x : X) → cond b o None ≡ Some x → (b ≡ true) × (o ≡ Some x)
cond_some true o x e = (refl, e)
cond_some false o x e = cc

-- all octets of a value that has n of them
all_from : (n : ℕ) (v : List ℕ) → length v ≡ n → v ≡ from n 0 v
all_from n v long = sym (take_all n v (omega arith)) ∙ take_from n 0 v (omega arith)

four_back : (a b c d : ℕ) → a < 256 → b < 256 → c < 256 → d < 256 → four_octets (a * 16777216 + b * 65536 + c * 256 + d) ≡ a ∷ b ∷ c ∷ d ∷ []
four_back a b c d ha hb hc hd =
    let n = a * 16777216 + b * 65536 + c * 256 + d in
    let one : n / 16777216 % 256 ≡ a = omega arith in
    let two : n / 65536 % 256 ≡ b = omega arith in
    let three : n / 256 % 256 ≡ c = omega arith in
    let four : n % 256 ≡ d = omega arith in
    λ k. one k ∷ two k ∷ three k ∷ four k ∷ []

three_back : (a b c : ℕ) → b < 256 → c < 256 → three_octets (a * 65536 + b * 256 + c) ≡ a ∷ b ∷ c ∷ []
three_back a b c hb hc =
    let n = a * 65536 + b * 256 + c in
    let one : n / 65536 ≡ a = omega arith in
    let two : n / 256 % 256 ≡ b = omega arith in
    let three : n % 256 ≡ c = omega arith in
    λ k. one k ∷ two k ∷ three k ∷ []

tmsi_bits : (n : ℕ) (t : Tmsi) → tmsi_when n ≡ Some t → t.bits ≡ n
unfolding tmsi_when
tmsi_bits n t e = ap (λ x. x.bits) (sym (when_some (lawful_tmsi n) (λ lawful. record { bits = n; lawful = lawful }) t e).1)

signature_bits : (n : ℕ) (s : Signature) → signature_when n ≡ Some s → s.bits ≡ n
unfolding signature_when
signature_bits n s e = ap (λ x. x.bits) (sym (when_some (lawful_signature n) (λ lawful. record { bits = n; lawful = lawful }) s e).1)

pub codes_tmsi : (v : List ℕ) → Octets v → (t : Tmsi) → tmsi_value v ≡ Some t → CodesTmsi v t
codes_tmsi v small t e =
    let got = cond_some (coded_tmsi v) (tmsi_of (get_or v 1 0) (get_or v 2 0) (get_or v 3 0) (get_or v 4 0)) t e in
    let both = and_parts (eqb (length v) 5) (eqb (get_or v 0 0) 0xf4) got.0 in
    let mark = eqb-true (get_or v 0 0) 0xf4 both.1 in
    let octets = sym (four_back (get_or v 1 0) (get_or v 2 0) (get_or v 3 0) (get_or v 4 0) (small 1) (small 2) (small 3) (small 4)) in
    all_from 5 v (eqb-true _ _ both.0) ∙ (λ k. mark k ∷ octets k) ∙ ap (λ n. 0xf4 ∷ four_octets n) (sym (tmsi_bits _ t got.1))

pub codes_signature : (v : List ℕ) → Octets v → (s : Signature) → signature_value v ≡ Some s → CodesSignature v s
codes_signature v small s e =
    let got = cond_some (eqb (length v) 3) (signature_of (get_or v 0 0) (get_or v 1 0) (get_or v 2 0)) s e in
    all_from 3 v (eqb-true _ _ got.0)
    ∙ sym (three_back (get_or v 0 0) (get_or v 1 0) (get_or v 2 0) (small 1) (small 2))
    ∙ ap three_octets (sym (signature_bits _ s got.1))

pub codes_timer : (v : List ℕ) → Octets v → (seconds : ℕ) → timer_value v ≡ Some seconds → CodesTimer v seconds
codes_timer v small seconds e =
    let got = cond_some (eqb (length v) 1) (Some (gprs_seconds (get_or v 0 0))) seconds e in
    let inside : gprs_seconds (get_or v 0 0) ≡ seconds = let told = got.1 in cc in
    (get_or v 0 0, all_from 1 v (eqb-true _ _ got.0), sym inside)
