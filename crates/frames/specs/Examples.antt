-- Worked examples, each from the definitions alone.
use Rattle.std.specs.Prelude.{◌≡◌, ℕ, List, [], ◌∷◌, ◌++◌, replicate, Some, None, Ok, refl}
use Rattle.std.specs.Option.{option_map}
use Rattle.identities.specs.Identities.{imsi_from, imsi_octets}
use Rattle.vocabulary.specs.Places.{plmn_of}
use Rattle.vocabulary.specs.Timers.{gprs_seconds}
use Rattle.identities.specs.declared.values.Imsi.{Imsi}
use Rattle.vocabulary.specs.declared.values.Plmn.{Plmn}
use Rattle.vocabulary.specs.declared.values.Rai.{Rai}
use Rattle.identities.specs.declared.values.Tmsi.{Tmsi}
use Rattle.frames.specs.Decoded.{decoded}
use Rattle.frames.specs.Octets.{octets_of}
use Rattle.frames.specs.declared.downlink.Downlink.TheVariants.{AttachAccept}
use Rattle.frames.specs.declared.uplink.LocationUpdate.TheVariants.{Normal}
use Rattle.frames.specs.declared.uplink.Uplink.{Uplink}
use Rattle.frames.specs.declared.uplink.Uplink.TheVariants.{LocationRequest}

-- MCC 310, MNC 410
abbrev pub plmn_310_410 : Plmn
plmn_310_410 = record { mcc1 = 3; mcc2 = 1; mcc3 = 0; mnc1 = 4; mnc2 = 1; mnc3 = Some 0; lawful = refl }

-- MCC 001, MNC 01, LAC 0001, RAC 05
abbrev pub rai_001_01_1_5 : Rai
rai_001_01_1_5 = record {
  lai = record {
    plmn = record { mcc1 = 0; mcc2 = 0; mcc3 = 1; mnc1 = 0; mnc2 = 1; mnc3 = None; lawful = refl };
    lac = 1;
    lawful = refl;
  };
  rac = 5;
}

abbrev pub tmsi_12345678 : Tmsi
tmsi_12345678 = record { bits = 0x1234_5678; lawful = refl }

-- the IMSI 001010123456789, and its mobile identity
abbrev pub imsi_digits : List ℕ
imsi_digits = 0 ∷ 0 ∷ 1 ∷ 0 ∷ 1 ∷ 0 ∷ 1 ∷ 2 ∷ 3 ∷ 4 ∷ 5 ∷ 6 ∷ 7 ∷ 8 ∷ 9 ∷ []

abbrev pub imsi_identity : List ℕ
imsi_identity = 0x08 ∷ 0x09 ∷ 0x10 ∷ 0x10 ∷ 0x10 ∷ 0x32 ∷ 0x54 ∷ 0x76 ∷ 0x98 ∷ []

-- a location updating request of type 0 with classmark 33, where nothing but the IMSI is stored
abbrev pub bare_location_request : Imsi → Uplink
bare_location_request i =
    LocationRequest Normal (record { classmark = 0x33; capability = replicate 2 0; drx = replicate 2 0; radio = replicate 12 0; sized = refl })
    (record { imsi = i; tmsi = None; lai = None; key = None })

abbrev pub attach_accept_octets : List ℕ
attach_accept_octets =
    0x08 ∷ 0x02 ∷ 0x01 ∷ 0x49 ∷ 0x04 ∷ 0x00 ∷ 0xf1 ∷ 0x10 ∷ 0x00 ∷ 0x01 ∷ 0x05 ∷ 0x18 ∷ 0x05 ∷ 0xf4 ∷ 0x12 ∷ 0x34 ∷ 0x56 ∷ 0x78 ∷ []

pub record WorkedExamples : Type 0 where
  pub network : plmn_of 0x13 0x00 0x14 ≡ Some plmn_310_410
  pub timer : gprs_seconds 0x49 ≡ 3240
  pub stopped_timer : gprs_seconds 0xe3 ≡ 0
  pub identity : option_map imsi_octets (imsi_from imsi_digits) ≡ Some imsi_identity
  pub location_request : option_map (λ i. octets_of (bare_location_request i)) (imsi_from imsi_digits)
      ≡ Some ((0x05 ∷ 0x08 ∷ 0x70 ∷ 0xff ∷ 0xff ∷ 0xff ∷ 0xff ∷ 0xfe ∷ 0x33 ∷ []) ++ imsi_identity)
  pub attach_accept : decoded attach_accept_octets ≡ Ok (AttachAccept (record {
    t3312 = 3240;
    rai = rai_001_01_1_5;
    elements = record { signature = None; p_tmsi = Some tmsi_12345678; t3302 = None; equivalents = None };
  }))
