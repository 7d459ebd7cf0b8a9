-- What a card that is made holds, told by what was given and not by how it is checked.
use Rattle.std.specs.Prelude.{◌≡◌, ℕ, ◌≤◌, List, map, length, take, Some, Option}
use Rattle.std.specs.Option.{option_map}
use Rattle.vocabulary.specs.Places.{plmn_in, lai_in, rai_in}
use Rattle.identities.specs.Identities.{key_written}
use Rattle.lists.specs.Laws.{Once}
use Rattle.card.specs.Given.{Given}
use Rattle.card.specs.Numbers.{status_number}
use Rattle.card.specs.declared.values.Card.{Card}
use Rattle.card.specs.declared.fields.RecordFields.{RecordFields}
use Rattle.card.specs.declared.values.Record.{Record}

-- a record holds the status, the identity and the key that were given, and the area that its octets name
pub record KeepsRecord {A : Type 0} (read : List ℕ → Option A) (f : RecordFields (List ℕ)) (r : Record A) : Type 0 where
  pub status : status_number r.status ≡ f.status
  pub identity : option_map (λ t. t.bits) r.identity ≡ f.identity
  pub area : option_map read f.area ≡ option_map Some r.area
  pub key : key_written r.key ≡ f.key

-- a card holds all that was given, and at most four forbidden networks, none twice
pub record Keeps (g : Given) (c : Card) : Type 0 where
  pub digits : take c.imsi.len c.imsi.digits ≡ g.imsi
  pub packet : KeepsRecord rai_in g.packet c.packet.base
  pub signature : option_map (λ s. s.bits) c.packet.signature ≡ g.signature
  pub circuit : KeepsRecord lai_in g.circuit c.circuit
  pub networks : map plmn_in g.forbidden ≡ map Some c.forbidden
  pub few : length c.forbidden ≤ 4
  pub once : Once c.forbidden
