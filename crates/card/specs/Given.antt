-- A card as it comes from outside, and the lawful card that it makes.
use Rattle.std.specs.Prelude.{ℕ, cond, ◌&&◌, ◌||◌, List, [], ◌∷◌, ◌++◌, length, Some, None, Ok, Err, Option, Result, ◌==◌, nat_le}
use Rattle.std.specs.Option.{option_map}
use Rattle.vocabulary.specs.Made.{then}
use Rattle.vocabulary.specs.Places.{plmn_in, lai_in, rai_in}
use Rattle.vocabulary.specs.Same.{same_plmn}
use Rattle.vocabulary.specs.declared.values.Plmn.{Plmn}
use Rattle.identities.specs.Identities.{imsi_from, tmsi_when, signature_when, key_when}
use Rattle.identities.specs.declared.values.KeyNumber.{KeyNumber}
use Rattle.lists.specs.Lists.{member, distinct}
use Rattle.card.specs.Numbers.{status_number}
use Rattle.card.specs.declared.fields.CardFields.{CardFields}
use Rattle.card.specs.declared.fields.RecordFields.{RecordFields}
use Rattle.card.specs.declared.fields.Unlawful.{Unlawful}
use Rattle.card.specs.declared.fields.Unlawful.TheVariants as unlawful
use Rattle.card.specs.declared.values.Card.{Card}
use Rattle.card.specs.declared.values.PacketRecord.{PacketRecord}
use Rattle.card.specs.declared.values.Record.{Record}
use Rattle.card.specs.declared.values.Status.{Status}
use Rattle.card.specs.declared.values.Status.TheVariants.{Updated, NotUpdated, NotAllowed}

-- what is given, whoever lends it
pub record Given : Type 0 where
  pub imsi : List ℕ
  pub packet : RecordFields (List ℕ)
  pub signature : Option ℕ
  pub circuit : RecordFields (List ℕ)
  pub forbidden : List (List ℕ)

abbrev pub given : CardFields → Given
given f = record { imsi = f.imsi.now; packet = f.packet; signature = f.signature; circuit = f.circuit; forbidden = f.forbidden.now }

-- the first part that is not lawful is the fault
abbrev pub checked : {X Y : Type 0} → Option X → Unlawful → (X → Result Y Unlawful) → Result Y Unlawful
checked None fault next = Err fault
checked (Some x) fault next = next x

-- the status that has a number
abbrev pub status_of : ℕ → Option Status
status_of n =
    cond (n == status_number Updated) (Some Updated) (cond (n == status_number NotUpdated) (Some NotUpdated)
    (cond (n == status_number NotAllowed) (Some NotAllowed) None))

-- a part that may be none: what is given as a value has to be one, and a mark is none
abbrev pub part_of : {X Y : Type 0} → (X → Option Y) → Option X → Option (Option Y)
part_of read None = Some None
part_of read (Some x) = option_map Some (read x)

-- a key by its number, of which 7 is none
abbrev pub key_of : ℕ → Option (Option KeyNumber)
key_of n = cond (nat_le n 7) (Some (key_when n)) None

-- a registration record, of one make for either kind of area, once its area is looked at
abbrev pub record_with : {O A : Type 0} → Option (Option A) → RecordFields O → Result (Record A) Unlawful
record_with place f =
    checked (status_of f.status) unlawful.Status (λ status.
    checked (part_of tmsi_when f.identity) unlawful.Identity (λ identity.
    checked place unlawful.Area (λ area.
    checked (key_of f.key) unlawful.Key (λ key.
    Ok (record { status = status; identity = identity; area = area; key = key })))))

abbrev pub record_from : {O A : Type 0} → (O → Option A) → RecordFields O → Result (Record A) Unlawful
record_from read f = record_with (part_of read f.area) f

abbrev pub passed : {X Y : Type 0} → Result X Unlawful → (X → Result Y Unlawful) → Result Y Unlawful
passed (Ok x) next = next x
passed (Err fault) next = Err fault

abbrev pub packet_from : RecordFields (List ℕ) → Option ℕ → Result PacketRecord Unlawful
packet_from f signature =
    passed (record_from rai_in f) (λ base.
    checked (part_of signature_when signature) unlawful.Signature (λ part.
    Ok (record { base = base; signature = part })))

-- the networks, where each is lawful
abbrev pub plmns_from : List (List ℕ) → Option (List Plmn)
plmns_from [] = Some []
plmns_from (o ∷ os) = then (plmn_in o) (λ p. option_map (λ ps. p ∷ ps) (plmns_from os))

-- at most four of them, none twice
abbrev pub at_most_four : List Plmn → Option (List Plmn)
at_most_four ps = cond (nat_le (length ps) 4 && distinct same_plmn ps) (Some ps) None

unfoldable pub forbidden_from : List (List ℕ) → Option (List Plmn)
forbidden_from os = then (plmns_from os) at_most_four

-- a list with one network more, where it is lawful, new to the list, and not the fifth
abbrev pub one_more : List Plmn → List ℕ → Option (List Plmn)
one_more ps o =
    then (plmn_in o) (λ p.
    cond (member same_plmn p ps || nat_le 4 (length ps)) None (Some (ps ++ p ∷ [])))

-- the card that is given, or the first of its parts that is not lawful
abbrev pub card_from : Given → Result Card Unlawful
card_from g =
    checked (imsi_from g.imsi) unlawful.Imsi (λ imsi.
    passed (packet_from g.packet g.signature) (λ packet.
    passed (record_from lai_in g.circuit) (λ circuit.
    checked (forbidden_from g.forbidden) unlawful.Forbidden (λ forbidden.
    Ok (record { imsi = imsi; packet = packet; circuit = circuit; forbidden = forbidden })))))
