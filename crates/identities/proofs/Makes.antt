-- A value is what its own fields make.
use Rattle.std.proofs.Common.{◌≡◌, ℕ, false, List, Some, None}
use Rattle.vocabulary.specs.Made.{some_when, none_when}
use Rattle.identities.specs.Marks.{lawful_tmsi, lawful_signature, lawful_key, lawful_imsi}
use Rattle.identities.specs.Identities.{tmsi_when, signature_when, key_when, imsi_when}
use Rattle.identities.specs.declared.values.Imsi.{Imsi}
use Rattle.identities.specs.declared.values.Tmsi.{Tmsi}
use Rattle.identities.specs.declared.values.Signature.{Signature}
use Rattle.identities.specs.declared.values.KeyNumber.{KeyNumber}

pub tmsi_made : (t : Tmsi) → Some t ≡ tmsi_when t.bits
unfolding tmsi_when
tmsi_made t = some_when _ (λ lawful. record { bits = t.bits; lawful = lawful }) t.lawful

pub tmsi_refused : (n : ℕ) → lawful_tmsi n ≡ false → None ≡ tmsi_when n
unfolding tmsi_when
tmsi_refused n h = none_when _ _ h

pub signature_made : (s : Signature) → Some s ≡ signature_when s.bits
unfolding signature_when
signature_made s = some_when _ (λ lawful. record { bits = s.bits; lawful = lawful }) s.lawful

pub signature_refused : (n : ℕ) → lawful_signature n ≡ false → None ≡ signature_when n
unfolding signature_when
signature_refused n h = none_when _ _ h

pub key_made : (k : KeyNumber) → Some k ≡ key_when k.number
key_made k = some_when _ (λ lawful. record { number = k.number; lawful = lawful }) k.lawful

pub key_refused : (n : ℕ) → lawful_key n ≡ false → None ≡ key_when n
key_refused n h = none_when _ _ h

pub imsi_made : (i : Imsi) → Some i ≡ imsi_when i.digits i.len
unfolding imsi_when
imsi_made i = some_when _ (λ lawful. record { digits = i.digits; len = i.len; lawful = lawful }) i.lawful

pub imsi_refused : (ds : List ℕ) (n : ℕ) → lawful_imsi ds n ≡ false → None ≡ imsi_when ds n
unfolding imsi_when
imsi_refused ds n h = none_when _ _ h
