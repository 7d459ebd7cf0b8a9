-- What octets mean is the card that is written as them.
use Rattle.std.proofs.Common.{◌≡◌, ℕ, true, leb, List, [], length, ◌≤◌, Some, None, Option, sym, refl, ap, ◌∙◌, subst, inl, inr, arith}
use Rattle.std.specs.Option.{option_map}
use Rattle.std.specs.Str.{bytes_eq}
use Rattle.std.proofs.lemmas.Slice.Eq.{bytes_eq-Decides}
use Rattle.std.proofs.lemmas.Bool.{and_from, cases_Bool, cond-true, cond-false, le-leb}
use Rattle.vocabulary.specs.Made.{then}
use Rattle.vocabulary.specs.Same.{same_plmn}
use Rattle.vocabulary.specs.declared.values.Plmn.{Plmn}
use Rattle.vocabulary.specs.Told.{plmn_told}
use Rattle.vocabulary.proofs.Inversions.{never, some_same}
use Rattle.identities.specs.declared.values.Imsi.{Imsi}
use Rattle.lists.proofs.Additions.{distinct_added, adds}
use Rattle.card.specs.declared.values.Card.{Card}
use Rattle.lists.specs.Lists.{distinct}
use Rattle.card.proofs.Networks.{Fits}
use Rattle.card.specs.declared.values.Status.{Status}
use Rattle.card_image.specs.Layout.{image}
use Rattle.card_image.specs.Meaning.{imsi_at_front, status_at, packet_in, circuit_in, added_some, forbidden_in, plmn_at, likely, only_written_so, contents_in, area_fits, lawful_contents, Means}
use Rattle.card_image.proofs.RoundTrip.{image_read, areas_fit}

written_some : (xs : List ℕ) (o : Option Card) (c : Card) → only_written_so xs o ≡ Some c → (o ≡ Some c) × (image c ≡ xs)
written_some xs None c e = absurd (never e)
written_some xs (Some d) c e =
    elim (cases_Bool (bytes_eq (image d) xs)) [
      | inl is ↦
          let same : d ≡ c = some_same d c (sym (cond-true (bytes_eq (image d) xs) (Some d) None is) ∙ e) in (
            ap Some same,
            subst (λ x. image x ≡ xs) same ((bytes_eq-Decides (image d) xs).0 is),
          )
      | inr isnt ↦ absurd (never (sym (cond-false (bytes_eq (image d) xs) (Some d) None isnt) ∙ e))
    ]

likely_networks : (xs : List ℕ) (i : Option Imsi) (p q : Option Status) (c : Card)
    → then i (λ imsi. then p (λ a. then q (λ b. Some (record { imsi = imsi; packet = packet_in xs a; circuit = circuit_in xs b; forbidden = forbidden_in xs })))) ≡ Some c
    → forbidden_in xs ≡ c.forbidden
likely_networks xs None p q c e = absurd (never e)
likely_networks xs (Some i) None q c e = absurd (never e)
likely_networks xs (Some i) (Some a) None c e = absurd (never e)
likely_networks xs (Some i) (Some a) (Some b) c e = ap (λ x. x.forbidden) (some_same _ c e)

added_fits : (ps : List Plmn) (o : Option Plmn) → Fits ps → Fits (added_some ps o)
added_fits ps None fits = fits
added_fits ps (Some p) fits =
    ((adds same_plmn plmn_told 4 ps p (omega arith) fits.0 fits.1).bound, distinct_added same_plmn plmn_told 4 ps p fits.1)

networks_fit : (xs : List ℕ) → Fits (forbidden_in xs)
networks_fit xs =
    added_fits _ (plmn_at xs 43) (added_fits _ (plmn_at xs 40) (added_fits _ (plmn_at xs 37) (added_fits [] (plmn_at xs 34) (omega arith, refl))))

found_written : (xs : List ℕ) (c : Card) → contents_in xs ≡ Some c → image c ≡ xs
unfolding contents_in
found_written xs c e = (written_some xs (likely xs) c e).1

found_lawful : (xs : List ℕ) (c : Card) → contents_in xs ≡ Some c → lawful_contents c ≡ true
unfolding contents_in
found_lawful xs c e =
    let found = written_some xs (likely xs) c e in
    let list = likely_networks xs (imsi_at_front xs) (status_at xs 22) (status_at xs 33) c found.0 in
    let fits = subst Fits list (networks_fit xs) in
    and_from _ _
    (and_from (leb (length c.forbidden) 4) _ (le-leb (length c.forbidden) 4 fits.0) fits.1)
    (areas_fit c fits.0 fits.1 (ap likely found.1 ∙ found.0))

pub meant : (xs : List ℕ) → Means xs (contents_in xs)
meant xs =
    record {
      lawful = λ c e. found_lawful xs c e;
      written = λ c e. found_written xs c e;
      found = λ c lawful e. ap contents_in (sym e) ∙ image_read c lawful;
    }

-- two cards with one image are one card
pub one_card : (c d : Card) → lawful_contents c ≡ true → lawful_contents d ≡ true → image c ≡ image d → c ≡ d
one_card c d one other e = some_same c d (sym (image_read c one) ∙ ap contents_in e ∙ image_read d other)

-- a card is lawful if its list and its areas fit
pub card_lawful : (card : Card) → length card.forbidden ≤ 4 → distinct same_plmn card.forbidden ≡ true
    → area_fits (option_map (λ a. a.lai) card.packet.base.area) ≡ true → area_fits card.circuit.area ≡ true
    → lawful_contents card ≡ true
card_lawful card few once packet circuit =
    and_from _ _ (and_from (leb (length card.forbidden) 4) _ (le-leb (length card.forbidden) 4 few) once) (and_from _ _ packet circuit)
