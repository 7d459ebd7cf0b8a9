-- More worked examples: every message, every frame and every refusal, each from the definitions alone.
use Rattle.std.specs.Prelude.{◌≡◌, ℕ, List, [], ◌∷◌, ◌++◌, map, Some, None, Ok, Err, Option, Result, refl}
use Rattle.std.specs.Option.{option_map}
use Rattle.identities.specs.Identities.{imsi_from, imsi_octets}
use Rattle.vocabulary.specs.Timers.{gprs_seconds}
use Rattle.identities.specs.declared.values.Imsi.{Imsi}
use Rattle.identities.specs.declared.values.KeyNumber.{KeyNumber}
use Rattle.identities.specs.declared.values.Signature.{Signature}
use Rattle.vocabulary.specs.declared.values.Lai.{Lai}
use Rattle.vocabulary.specs.declared.values.Plmn.{Plmn}
use Rattle.vocabulary.specs.declared.values.Rai.{Rai}
use Rattle.frames.specs.Causes.{cause_of}
use Rattle.frames.specs.Decoded.{decoded}
use Rattle.frames.specs.Examples.{plmn_310_410, rai_001_01_1_5, tmsi_12345678, imsi_digits, imsi_identity}
use Rattle.frames.specs.Faults.{number, octet_at}
use Rattle.frames.specs.Octets.{octets_of}
use Rattle.frames.specs.declared.downlink.Cause.TheVariants.{ImsiUnknownInHlr, IllegalMs, IllegalMe, GprsNotAllowed, GprsAndNonGprsNotAllowed, IdentityCannotBeDerived, ImplicitlyDetached, PlmnNotAllowed, LocationAreaNotAllowed, RoamingNotAllowed, GprsNotAllowedInPlmn, NoSuitableCells, Other}
use Rattle.frames.specs.declared.downlink.CircuitElements.{CircuitElements}
use Rattle.frames.specs.declared.downlink.Downlink.{Downlink}
use Rattle.frames.specs.declared.downlink.Downlink.TheVariants.{AttachAccept, AttachReject, DetachAccept, UpdateAccept, UpdateReject, LocationAccept, LocationReject}
use Rattle.frames.specs.declared.downlink.MobileIdentity.TheVariants as identity
use Rattle.frames.specs.declared.downlink.PacketElements.{PacketElements}
use Rattle.frames.specs.declared.faults.FrameFault.{FrameFault}
use Rattle.frames.specs.declared.terminal.Terminal.{Terminal}
use Rattle.frames.specs.declared.uplink.CircuitStored.{CircuitStored}
use Rattle.frames.specs.declared.uplink.DetachType.TheVariants as detach
use Rattle.frames.specs.declared.uplink.LocationUpdate.TheVariants as location
use Rattle.frames.specs.declared.uplink.PacketStored.{PacketStored}
use Rattle.frames.specs.declared.uplink.RoutingUpdate.TheVariants as routing
use Rattle.frames.specs.declared.uplink.Uplink.{Uplink}
use Rattle.frames.specs.declared.uplink.Uplink.TheVariants.{AttachRequest, AttachComplete, DetachRequest, UpdateRequest, UpdateComplete, DetachIndication, LocationRequest, TmsiComplete}

-- MCC 001, MNC 01
abbrev pub plmn_001_01 : Plmn
plmn_001_01 = record { mcc1 = 0; mcc2 = 0; mcc3 = 1; mnc1 = 0; mnc2 = 1; mnc3 = None; lawful = refl }

-- LAC 0102, RAC 05
abbrev pub lai_of_example : Lai
lai_of_example = record { plmn = plmn_001_01; lac = 0x0102; lawful = refl }

abbrev pub rai_of_example : Rai
rai_of_example = record { lai = lai_of_example; rac = 5 }

abbrev pub signature_abcdef : Signature
signature_abcdef = record { bits = 0xab_cdef; lawful = refl }

abbrev pub key_3 : KeyNumber
key_3 = record { number = 3; lawful = refl }

abbrev pub radio_octets : List ℕ
radio_octets = 0x10 ∷ 0x11 ∷ 0x12 ∷ 0x13 ∷ 0x14 ∷ 0x15 ∷ 0x16 ∷ 0x17 ∷ 0x18 ∷ 0x19 ∷ 0x1a ∷ 0x1b ∷ []

-- classmark 33, capability E5 E0, DRX 00 08
abbrev pub terminal : Terminal
terminal = record { classmark = 0x33; capability = 0xe5 ∷ 0xe0 ∷ []; drx = 0x00 ∷ 0x08 ∷ []; radio = radio_octets; sized = refl }

-- what is stored where everything is, where nothing but the IMSI is, and where only the area is missing
abbrev pub packet_full : Imsi → PacketStored
packet_full i = record { imsi = i; p_tmsi = Some tmsi_12345678; signature = Some signature_abcdef; rai = Some rai_of_example; key = Some key_3 }

abbrev pub packet_without_area : Imsi → PacketStored
packet_without_area i = record { imsi = i; p_tmsi = Some tmsi_12345678; signature = Some signature_abcdef; rai = None; key = None }

abbrev pub circuit_full : Imsi → CircuitStored
circuit_full i = record { imsi = i; tmsi = Some tmsi_12345678; lai = Some lai_of_example; key = Some key_3 }

abbrev pub circuit_bare : Imsi → CircuitStored
circuit_bare i = record { imsi = i; tmsi = None; lai = None; key = None }

-- the octets of a message that is made of the IMSI 001010123456789
abbrev pub sent : (Imsi → Uplink) → Option (List ℕ)
sent message = option_map (λ i. octets_of (message i)) (imsi_from imsi_digits)

-- the messages of TS 24.008, octet by octet
pub record WrittenExamples : Type 0 where
  pub attach : sent (λ i. AttachRequest terminal (packet_full i))
      ≡ Some ((0x08 ∷ 0x01 ∷ 0x02 ∷ 0xe5 ∷ 0xe0 ∷ 0x31 ∷ 0x00 ∷ 0x08 ∷ 0x05 ∷ 0xf4 ∷ 0x12 ∷ 0x34 ∷ 0x56 ∷ 0x78
      ∷ 0x00 ∷ 0xf1 ∷ 0x10 ∷ 0x01 ∷ 0x02 ∷ 0x05 ∷ 0x0c ∷ []) ++ (radio_octets ++ 0x19 ∷ 0xab ∷ 0xcd ∷ 0xef ∷ []))
  pub attach_by_imsi : sent (λ i. AttachRequest terminal (packet_without_area i))
      ≡ Some ((0x08 ∷ 0x01 ∷ 0x02 ∷ 0xe5 ∷ 0xe0 ∷ 0x71 ∷ 0x00 ∷ 0x08 ∷ []) ++ (imsi_identity
      ++ ((0xff ∷ 0xff ∷ 0xff ∷ 0xff ∷ 0xfe ∷ 0xff ∷ 0x0c ∷ []) ++ radio_octets)))
  pub attach_complete : octets_of AttachComplete ≡ 0x08 ∷ 0x03 ∷ []
  pub update : sent (λ i. UpdateRequest routing.Normal terminal (packet_full i))
      ≡ Some ((0x08 ∷ 0x08 ∷ 0x30 ∷ 0x00 ∷ 0xf1 ∷ 0x10 ∷ 0x01 ∷ 0x02 ∷ 0x05 ∷ 0x0c ∷ []) ++ (radio_octets ++ 0x19 ∷ 0xab ∷ 0xcd ∷ 0xef ∷ []))
  pub periodic_update : sent (λ i. UpdateRequest routing.Periodic terminal (packet_without_area i))
      ≡ Some ((0x08 ∷ 0x08 ∷ 0x73 ∷ 0xff ∷ 0xff ∷ 0xff ∷ 0xff ∷ 0xfe ∷ 0xff ∷ 0x0c ∷ []) ++ (radio_octets ++ 0x19 ∷ 0xab ∷ 0xcd ∷ 0xef ∷ []))
  pub update_complete : octets_of UpdateComplete ≡ 0x08 ∷ 0x0a ∷ []
  pub gprs_detach : octets_of (DetachRequest detach.Gprs) ≡ 0x08 ∷ 0x05 ∷ 0x01 ∷ []
  pub switch_off : octets_of (DetachRequest detach.SwitchOff) ≡ 0x08 ∷ 0x05 ∷ 0x09 ∷ []
  pub location_by_imsi : sent (λ i. LocationRequest location.Normal terminal (circuit_bare i))
      ≡ Some ((0x05 ∷ 0x08 ∷ 0x70 ∷ 0xff ∷ 0xff ∷ 0xff ∷ 0xff ∷ 0xfe ∷ 0x33 ∷ []) ++ imsi_identity)
  pub periodic_location : sent (λ i. LocationRequest location.Periodic terminal (circuit_full i))
      ≡ Some (0x05 ∷ 0x08 ∷ 0x31 ∷ 0x00 ∷ 0xf1 ∷ 0x10 ∷ 0x01 ∷ 0x02 ∷ 0x33 ∷ 0x05 ∷ 0xf4 ∷ 0x12 ∷ 0x34 ∷ 0x56 ∷ 0x78 ∷ [])
  pub imsi_attach : sent (λ i. LocationRequest location.ImsiAttach terminal (circuit_full i))
      ≡ Some (0x05 ∷ 0x08 ∷ 0x32 ∷ 0x00 ∷ 0xf1 ∷ 0x10 ∷ 0x01 ∷ 0x02 ∷ 0x33 ∷ 0x05 ∷ 0xf4 ∷ 0x12 ∷ 0x34 ∷ 0x56 ∷ 0x78 ∷ [])
  pub indication : sent (λ i. DetachIndication terminal (circuit_bare i)) ≡ Some ((0x05 ∷ 0x01 ∷ 0x33 ∷ []) ++ imsi_identity)
  pub tmsi_complete : octets_of TmsiComplete ≡ 0x05 ∷ 0x1b ∷ []

-- elements that are none
abbrev pub no_packet : PacketElements
no_packet = record { signature = None; p_tmsi = None; t3302 = None; equivalents = None }

abbrev pub no_circuit : CircuitElements
no_circuit = record { identity = None; equivalents = None }

-- the number and the octet of a refusal; none where the frame is read
abbrev pub refused : Result Downlink FrameFault → Option (ℕ × ℕ)
refused (Ok message) = None
refused (Err fault) = Some (number fault, octet_at fault)

-- the frames of TS 24.008, and each refusal
pub record ReadExamples : Type 0 where
  pub attach_accept : decoded (0x08 ∷ 0x02 ∷ 0x01 ∷ 0x49 ∷ 0x04 ∷ 0x00 ∷ 0xf1 ∷ 0x10 ∷ 0x00 ∷ 0x01 ∷ 0x05 ∷ 0x18 ∷ 0x05 ∷ 0xf4 ∷ 0x12 ∷ 0x34 ∷ 0x56 ∷ 0x78 ∷ [])
      ≡ Ok (AttachAccept (record {
        t3312 = 3240;
        rai = rai_001_01_1_5;
        elements = record { signature = None; p_tmsi = Some tmsi_12345678; t3302 = None; equivalents = None };
      }))
  pub update_accept : decoded (0x08 ∷ 0x09 ∷ 0x00 ∷ 0x21 ∷ 0x00 ∷ 0xf1 ∷ 0x10 ∷ 0x01 ∷ 0x02 ∷ 0x05 ∷ 0x19 ∷ 0xab ∷ 0xcd ∷ 0xef
      ∷ 0x2a ∷ 0x01 ∷ 0x05 ∷ 0x4a ∷ 0x06 ∷ 0x13 ∷ 0x00 ∷ 0x14 ∷ 0x00 ∷ 0xf1 ∷ 0x10 ∷ [])
      ≡ Ok (UpdateAccept (record {
        t3312 = 60;
        rai = rai_of_example;
        elements = record {
          signature = Some signature_abcdef;
          p_tmsi = None;
          t3302 = Some 10;
          equivalents = Some (record { entries = Some plmn_310_410 ∷ Some plmn_001_01 ∷ None ∷ None ∷ None ∷ [] });
        };
      }))
  pub location_accept : decoded (0x05 ∷ 0x02 ∷ 0x00 ∷ 0xf1 ∷ 0x10 ∷ 0x01 ∷ 0x02 ∷ 0x17 ∷ 0x05 ∷ 0xf4 ∷ 0x12 ∷ 0x34 ∷ 0x56 ∷ 0x78 ∷ [])
      ≡ Ok (LocationAccept lai_of_example (record { identity = Some (identity.Tmsi tmsi_12345678); equivalents = None }))
  pub attach_reject : decoded (0x08 ∷ 0x04 ∷ 0x0b ∷ []) ≡ Ok (AttachReject PlmnNotAllowed no_packet)
  pub update_reject : decoded (0x08 ∷ 0x0b ∷ 0x09 ∷ 0x00 ∷ []) ≡ Ok (UpdateReject IdentityCannotBeDerived no_packet)
  pub location_reject : decoded (0x05 ∷ 0x04 ∷ 0x0d ∷ []) ≡ Ok (LocationReject RoamingNotAllowed no_circuit)
  pub detach_accept : decoded (0x08 ∷ 0x06 ∷ 0x00 ∷ []) ≡ Ok (DetachAccept no_packet)
  pub no_octets : refused (decoded []) ≡ Some (11, 1)
  pub no_frame : refused (decoded (0x08 ∷ 0x03 ∷ [])) ≡ Some (12, 1)
  pub cut_short : refused (decoded (0x08 ∷ 0x02 ∷ 0x02 ∷ [])) ≡ Some (13, 4)
  pub bad_result : refused (decoded (0x08 ∷ 0x09 ∷ 0x10 ∷ 0x21 ∷ 0x00 ∷ 0xf1 ∷ 0x10 ∷ 0x01 ∷ 0x02 ∷ 0x05 ∷ [])) ≡ Some (14, 3)
  pub bad_element : refused (decoded (0x08 ∷ 0x06 ∷ 0x00 ∷ 0x0f ∷ 0x00 ∷ 0x2a ∷ 0x00 ∷ [])) ≡ Some (14, 6)
  pub unknown_tag : refused (decoded (0x08 ∷ 0x06 ∷ 0x00 ∷ 0x2a ∷ 0x01 ∷ 0x05 ∷ 0x0f ∷ 0x00 ∷ [])) ≡ Some (15, 7)

pub record MoreExamples : Type 0 where
  pub timers : map gprs_seconds (0x05 ∷ 0x21 ∷ 0x49 ∷ 0x62 ∷ 0xe3 ∷ []) ≡ 10 ∷ 60 ∷ 3240 ∷ 120 ∷ 0 ∷ []
  pub odd_imsi : option_map imsi_octets (imsi_from imsi_digits) ≡ Some imsi_identity
  pub even_imsi : option_map imsi_octets (imsi_from (1 ∷ 2 ∷ 3 ∷ 4 ∷ 5 ∷ 6 ∷ []))
      ≡ Some (0x04 ∷ 0x11 ∷ 0x32 ∷ 0x54 ∷ 0xf6 ∷ 0xff ∷ 0xff ∷ 0xff ∷ 0xff ∷ [])
  pub causes : map cause_of (2 ∷ 3 ∷ 6 ∷ 7 ∷ 8 ∷ 9 ∷ 10 ∷ 11 ∷ 12 ∷ 13 ∷ 14 ∷ 15 ∷ 16 ∷ [])
      ≡ ImsiUnknownInHlr ∷ IllegalMs ∷ IllegalMe ∷ GprsNotAllowed ∷ GprsAndNonGprsNotAllowed ∷ IdentityCannotBeDerived
      ∷ ImplicitlyDetached ∷ PlmnNotAllowed ∷ LocationAreaNotAllowed ∷ RoamingNotAllowed ∷ GprsNotAllowedInPlmn ∷ NoSuitableCells ∷ Other 16 ∷ []
  pub written : WrittenExamples
  pub read : ReadExamples
