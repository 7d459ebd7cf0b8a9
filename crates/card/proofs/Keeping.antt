-- A card that is made holds what was given.
use Rattle.std.proofs.Common.{◌≡◌, ℕ, ◌≤◌, Bool, true, false, ◌&&◌, eqb, ltb, leb, List, [], ◌∷◌, ◌++◌, map, length, take, drop, replicate, Some, None, Ok, Option, Result, sym, refl, ap, ◌∙◌, subst, inl, inr, arith}
use Rattle.std.specs.Option.{option_map}
use Rattle.std.proofs.lemmas.List.{take_at}
use Rattle.std.proofs.lemmas.Bool.{and_parts, cases_Bool, cond-true, cond-false, eqb-true, leb-true, ltb-false}
use Rattle.vocabulary.specs.Made.{when}
use Rattle.vocabulary.specs.Same.{same_plmn}
use Rattle.vocabulary.specs.declared.values.Plmn.{Plmn}
use Rattle.vocabulary.specs.declared.values.Lai.{Lai}
use Rattle.vocabulary.specs.declared.values.Rai.{Rai}
use Rattle.vocabulary.specs.Told.{plmn_told}
use Rattle.vocabulary.proofs.Inversions.{never, some_same, when_some, then_some, mapped_some}
use Rattle.identities.specs.Identities.{imsi_from, imsi_when, tmsi_when, signature_when, key_when, key_written}
use Rattle.identities.specs.Marks.{lawful_imsi, lawful_tmsi, lawful_signature, lawful_key}
use Rattle.identities.specs.declared.values.Imsi.{Imsi}
use Rattle.identities.specs.declared.values.KeyNumber.{KeyNumber}
use Rattle.identities.specs.declared.values.Signature.{Signature}
use Rattle.identities.specs.declared.values.Tmsi.{Tmsi}
use Rattle.lists.specs.Laws.{Once}
use Rattle.lists.specs.Lists.{distinct}
use Rattle.lists.proofs.Members.{once_from_distinct}
use Rattle.card.specs.Given.{Given, checked, passed, status_of, part_of, key_of, record_from, packet_from, plmns_from, at_most_four, forbidden_from, card_from}
use Rattle.vocabulary.specs.Places.{plmn_in, lai_in, rai_in}
use Rattle.card.specs.Laws.{KeepsRecord, Keeps}
use Rattle.card.specs.Numbers.{status_number}
use Rattle.card.specs.declared.fields.RecordFields.{RecordFields}
use Rattle.card.specs.declared.fields.Unlawful.{Unlawful}
use Rattle.card.specs.declared.fields.Unlawful.TheVariants as unlawful
use Rattle.card.specs.declared.values.Card.{Card}
use Rattle.card.specs.declared.values.PacketRecord.{PacketRecord}
use Rattle.card.specs.declared.values.Record.{Record}
use Rattle.card.specs.declared.values.Status.{Status}
use Rattle.card.specs.declared.values.Status.TheVariants.{Updated, NotUpdated, NotAllowed}
use Rattle.card.proofs.Inversion.{ok_same, checked_ok, passed_ok, cond_some, part_read}

status_kept : (n : ℕ) (s : Status) → status_of n ≡ Some s → status_number s ≡ n
status_kept n s e =
    elim (cases_Bool (eqb n 1)) [
      | inl one ↦ sym (ap status_number (some_same Updated s (sym (cond-true (eqb n 1) _ _ one) ∙ e))) ∙ sym (eqb-true n 1 one)
      | inr not_one ↦
          let rest = sym (cond-false (eqb n 1) _ _ not_one) ∙ e in
          elim (cases_Bool (eqb n 2)) [
            | inl two ↦ sym (ap status_number (some_same NotUpdated s (sym (cond-true (eqb n 2) _ _ two) ∙ rest))) ∙ sym (eqb-true n 2 two)
            | inr not_two ↦
                let last = cond_some (eqb n 3) NotAllowed s (sym (cond-false (eqb n 2) _ _ not_two) ∙ rest) in
                sym (ap status_number last.1) ∙ sym (eqb-true n 3 last.0)
          ]
    ]

tmsi_bits : (n : ℕ) (t : Tmsi) → tmsi_when n ≡ Some t → t.bits ≡ n
unfolding tmsi_when
tmsi_bits n t e = sym (ap (λ x. x.bits) (when_some (lawful_tmsi n) (λ lawful. record { bits = n; lawful = lawful }) t e).1)

signature_bits : (n : ℕ) (s : Signature) → signature_when n ≡ Some s → s.bits ≡ n
unfolding signature_when
signature_bits n s e = sym (ap (λ x. x.bits) (when_some (lawful_signature n) (λ lawful. record { bits = n; lawful = lawful }) s e).1)

-- what is read of bits has these bits
bits_kept : {X : Type 0} (bits : X → ℕ) (read : ℕ → Option X) → ((n : ℕ) (x : X) → read n ≡ Some x → bits x ≡ n)
    → (o : Option ℕ) (i : Option X) → part_of read o ≡ Some i → option_map bits i ≡ o
bits_kept bits read back None i e = ap (option_map bits) (sym (some_same None i e))
bits_kept {X} bits read back (Some n) i e = by (read n) refl e
  where
    by : (r : Option X) → read n ≡ r → option_map Some r ≡ Some i → option_map bits i ≡ Some n
    by None is e = absurd (never e)
    by (Some x) is e = ap (option_map bits) (sym (some_same (Some x) i e)) ∙ ap Some (back n x is)

key_number : (n : ℕ) (b : Bool) (make : b ≡ true → KeyNumber) → ((p : b ≡ true) → (make p).number ≡ n) → (b ≡ false → n ≡ 7)
    → key_written (when b make) ≡ n
key_number n true make is none = is refl
key_number n false make is none = sym (none refl)

key_kept : (n : ℕ) (k : Option KeyNumber) → key_of n ≡ Some k → key_written k ≡ n
key_kept n k e =
    let known = cond_some (leb n 7) (key_when n) k e in
    sym (ap key_written known.1)
    ∙ key_number n (lawful_key n) (λ lawful. record { number = n; lawful = lawful }) (λ _. refl)
    (λ h. omega (arith, ltb-false n 7 h, leb-true n 7 known.0))

imsi_kept : (ds : List ℕ) (i : Imsi) → imsi_from ds ≡ Some i → take i.len i.digits ≡ ds
unfolding imsi_when
imsi_kept ds i e =
    let places = ds ++ drop (length ds) (replicate 15 15) in
    elim (cases_Bool (ltb (length ds) 16)) [
      | inl few ↦
          let made = when_some (lawful_imsi places (length ds)) (λ lawful. record { digits = places; len = length ds; lawful = lawful }) i
          (sym (cond-true (ltb (length ds) 16) (imsi_when places (length ds)) None few) ∙ e) in
          sym (ap (λ x. take x.len x.digits) made.1) ∙ take_at ds (drop (length ds) (replicate 15 15)) _ refl
      | inr many ↦ absurd (never (sym (cond-false (ltb (length ds) 16) (imsi_when places (length ds)) None many) ∙ e))
    ]

plmns_kept : (os : List (List ℕ)) (ps : List Plmn) → plmns_from os ≡ Some ps → map plmn_in os ≡ map Some ps
plmns_kept [] ps e = ap (map Some) (some_same [] ps e)
plmns_kept (o ∷ os) ps e =
    let first = then_some (plmn_in o) (λ p. option_map (λ qs. p ∷ qs) (plmns_from os)) ps e in
    let rest = mapped_some (λ qs. first.0 ∷ qs) (plmns_from os) ps first.2 in
    (λ k. first.1 k ∷ plmns_kept os rest.0 rest.1 k) ∙ ap (map Some) rest.2

record_kept : {A : Type 0} (read : List ℕ → Option A) (f : RecordFields (List ℕ)) (r : Record A) → Ok r ≡ record_from read f → KeepsRecord read f r
record_kept {A} read f r e =
    let at_key : Status → Option Tmsi → Option A → Option KeyNumber → Result (Record A) Unlawful =
    λ status identity area key. Ok (record { status = status; identity = identity; area = area; key = key }) in
    let at_area : Status → Option Tmsi → Option A → Result (Record A) Unlawful =
    λ status identity area. checked (key_of f.key) unlawful.Key (at_key status identity area) in
    let at_identity : Status → Option Tmsi → Result (Record A) Unlawful =
    λ status identity. checked (part_of read f.area) unlawful.Area (at_area status identity) in
    let at_status : Status → Result (Record A) Unlawful =
    λ status. checked (part_of tmsi_when f.identity) unlawful.Identity (at_identity status) in
    let one = checked_ok (status_of f.status) unlawful.Status at_status r e in
    let two = checked_ok (part_of tmsi_when f.identity) unlawful.Identity (at_identity one.0) r one.2 in
    let three = checked_ok (part_of read f.area) unlawful.Area (at_area one.0 two.0) r two.2 in
    let four = checked_ok (key_of f.key) unlawful.Key (at_key one.0 two.0 three.0) r three.2 in
    let made : r ≡ record { status = one.0; identity = two.0; area = three.0; key = four.0 } = ok_same _ _ four.2 in
    record {
      status = ap (λ x. status_number x.status) made ∙ status_kept f.status one.0 one.1;
      identity = ap (λ x. option_map (λ t. t.bits) x.identity) made ∙ bits_kept (λ t. t.bits) tmsi_when tmsi_bits f.identity two.0 two.1;
      area = part_read read f.area three.0 three.1 ∙ sym (ap (λ x. option_map Some x.area) made);
      key = ap (λ x. key_written x.key) made ∙ key_kept f.key four.0 four.1;
    }

pub card_kept : (g : Given) (c : Card) → Ok c ≡ card_from g → Keeps g c
unfolding forbidden_from
card_kept g c e =
    let at_list : Imsi → PacketRecord → Record Lai → List Plmn → Result Card Unlawful =
    λ imsi packet circuit forbidden. Ok (record { imsi = imsi; packet = packet; circuit = circuit; forbidden = forbidden }) in
    let at_circuit : Imsi → PacketRecord → Record Lai → Result Card Unlawful =
    λ imsi packet circuit. checked (forbidden_from g.forbidden) unlawful.Forbidden (at_list imsi packet circuit) in
    let at_packet : Imsi → PacketRecord → Result Card Unlawful =
    λ imsi packet. passed (record_from lai_in g.circuit) (at_circuit imsi packet) in
    let at_imsi : Imsi → Result Card Unlawful =
    λ imsi. passed (packet_from g.packet g.signature) (at_packet imsi) in
    let at_base : Record Rai → Result PacketRecord Unlawful =
    λ base. checked (part_of signature_when g.signature) unlawful.Signature (λ part. Ok (record { base = base; signature = part })) in
    let one = checked_ok (imsi_from g.imsi) unlawful.Imsi at_imsi c e in
    let two = passed_ok (packet_from g.packet g.signature) (at_packet one.0) c one.2 in
    let three = passed_ok (record_from lai_in g.circuit) (at_circuit one.0 two.0) c two.2 in
    let four = checked_ok (forbidden_from g.forbidden) unlawful.Forbidden (at_list one.0 two.0 three.0) c three.2 in
    let made : c ≡ record { imsi = one.0; packet = two.0; circuit = three.0; forbidden = four.0 } = ok_same _ _ four.2 in
    let base = passed_ok (record_from rai_in g.packet) at_base two.0 (sym two.1) in
    let part = checked_ok (part_of signature_when g.signature) unlawful.Signature (λ part. Ok (record { base = base.0; signature = part })) two.0 base.2 in
    let whole : two.0 ≡ record { base = base.0; signature = part.0 } = ok_same _ _ part.2 in
    let list = then_some (plmns_from g.forbidden) at_most_four four.0 four.1 in
    let lawful = cond_some (leb (length list.0) 4 && distinct same_plmn list.0) list.0 four.0 list.2 in
    let parts = and_parts (leb (length list.0) 4) _ lawful.0 in
    let held : list.0 ≡ c.forbidden = lawful.1 ∙ sym (ap (λ x. x.forbidden) made) in
    record {
      digits = ap (λ x. take x.imsi.len x.imsi.digits) made ∙ imsi_kept g.imsi one.0 one.1;
      packet = subst (KeepsRecord rai_in g.packet) (sym (ap (λ x. x.packet.base) made ∙ ap (λ x. x.base) whole)) (record_kept rai_in g.packet base.0 (sym base.1));
      signature = ap (λ x. option_map (λ s. s.bits) x.packet.signature) made ∙ ap (λ x. option_map (λ s. s.bits) x.signature) whole
          ∙ bits_kept (λ s. s.bits) signature_when signature_bits g.signature part.0 part.1;
      circuit = subst (KeepsRecord lai_in g.circuit) (sym (ap (λ x. x.circuit) made)) (record_kept lai_in g.circuit three.0 (sym three.1));
      networks = plmns_kept g.forbidden list.0 list.1 ∙ ap (map Some) held;
      few = subst (λ ps. length ps ≤ 4) held (leb-true (length list.0) 4 parts.0);
      once = subst Once held (once_from_distinct same_plmn plmn_told list.0 parts.1);
    }
