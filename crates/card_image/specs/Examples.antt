-- Worked examples of the image, each from the definitions alone.
use Rattle.std.specs.Prelude.{◌≡◌, ℕ, List, [], ◌∷◌, ◌++◌, map, Some, None, refl}
use Rattle.vocabulary.specs.declared.values.Lai.{Lai}
use Rattle.vocabulary.specs.declared.values.Plmn.{Plmn}
use Rattle.card.specs.Numbers.{status_number}
use Rattle.card.specs.declared.values.Card.{Card}
use Rattle.card.specs.declared.values.Status.TheVariants.{Updated, NotUpdated, NotAllowed}
use Rattle.card_image.specs.Layout.{image}
use Rattle.card_image.specs.Meaning.{contents_in}

-- MCC 001, MNC 01; MCC 310, MNC 41
abbrev pub plmn_001_01 : Plmn
plmn_001_01 = record { mcc1 = 0; mcc2 = 0; mcc3 = 1; mnc1 = 0; mnc2 = 1; mnc3 = None; lawful = refl }

abbrev pub plmn_310_41 : Plmn
plmn_310_41 = record { mcc1 = 3; mcc2 = 1; mcc3 = 0; mnc1 = 4; mnc2 = 1; mnc3 = None; lawful = refl }

abbrev pub lai_001_01_1 : Lai
lai_001_01_1 = record { plmn = plmn_001_01; lac = 1; lawful = refl }

-- a card on which everything is stored
abbrev pub full_card : Card
full_card = record {
  imsi = record { digits = 0 ∷ 0 ∷ 1 ∷ 0 ∷ 1 ∷ 0 ∷ 1 ∷ 2 ∷ 3 ∷ 4 ∷ 5 ∷ 6 ∷ 7 ∷ 8 ∷ 9 ∷ []; len = 15; lawful = refl };
  packet = record {
    base = record {
      status = Updated;
      identity = Some (record { bits = 0x1234_5678; lawful = refl });
      area = Some (record { lai = lai_001_01_1; rac = 5 });
      key = Some (record { number = 3; lawful = refl });
    };
    signature = Some (record { bits = 0xab_cdef; lawful = refl });
  };
  circuit = record {
    status = Updated;
    identity = Some (record { bits = 0x8765_4321; lawful = refl });
    area = Some lai_001_01_1;
    key = Some (record { number = 0; lawful = refl });
  };
  forbidden = plmn_310_41 ∷ [];
}

abbrev pub full_image : List ℕ
full_image =
    (0x08 ∷ 0x09 ∷ 0x10 ∷ 0x10 ∷ 0x10 ∷ 0x32 ∷ 0x54 ∷ 0x76 ∷ 0x98 ∷ [])
    ++ ((0x12 ∷ 0x34 ∷ 0x56 ∷ 0x78 ∷ 0xab ∷ 0xcd ∷ 0xef ∷ 0x00 ∷ 0xf1 ∷ 0x10 ∷ 0x00 ∷ 0x01 ∷ 0x05 ∷ 0x00 ∷ [])
    ++ ((0x87 ∷ 0x65 ∷ 0x43 ∷ 0x21 ∷ 0x00 ∷ 0xf1 ∷ 0x10 ∷ 0x00 ∷ 0x01 ∷ 0xff ∷ 0x00 ∷ [])
    ++ ((0x13 ∷ 0xf0 ∷ 0x14 ∷ 0xff ∷ 0xff ∷ 0xff ∷ 0xff ∷ 0xff ∷ 0xff ∷ 0xff ∷ 0xff ∷ 0xff ∷ [])
    ++ 0x03 ∷ 0x00 ∷ [])))

-- a card with nothing but the IMSI 123456
abbrev pub bare_card : Card
bare_card = record {
  imsi = record { digits = 1 ∷ 2 ∷ 3 ∷ 4 ∷ 5 ∷ 6 ∷ 15 ∷ 15 ∷ 15 ∷ 15 ∷ 15 ∷ 15 ∷ 15 ∷ 15 ∷ 15 ∷ []; len = 6; lawful = refl };
  packet = record { base = record { status = NotUpdated; identity = None; area = None; key = None }; signature = None };
  circuit = record { status = NotAllowed; identity = None; area = None; key = None };
  forbidden = [];
}

abbrev pub bare_image : List ℕ
bare_image =
    (0x04 ∷ 0x11 ∷ 0x32 ∷ 0x54 ∷ 0xf6 ∷ 0xff ∷ 0xff ∷ 0xff ∷ 0xff ∷ [])
    ++ ((0xff ∷ 0xff ∷ 0xff ∷ 0xff ∷ 0xff ∷ 0xff ∷ 0xff ∷ 0xff ∷ 0xff ∷ 0xff ∷ 0xff ∷ 0xfe ∷ 0xff ∷ 0x01 ∷ [])
    ++ ((0xff ∷ 0xff ∷ 0xff ∷ 0xff ∷ 0xff ∷ 0xff ∷ 0xff ∷ 0xff ∷ 0xfe ∷ 0xff ∷ 0x02 ∷ [])
    ++ ((0xff ∷ 0xff ∷ 0xff ∷ 0xff ∷ 0xff ∷ 0xff ∷ 0xff ∷ 0xff ∷ 0xff ∷ 0xff ∷ 0xff ∷ 0xff ∷ [])
    ++ 0x07 ∷ 0x07 ∷ [])))

pub record WorkedImages : Type 0 where
  pub statuses : map status_number (Updated ∷ NotUpdated ∷ NotAllowed ∷ []) ≡ 1 ∷ 2 ∷ 3 ∷ []
  pub full : image full_card ≡ full_image
  pub bare : image bare_card ≡ bare_image
  pub full_read : contents_in full_image ≡ Some full_card
  pub damaged : contents_in (0x09 ∷ full_image) ≡ None
