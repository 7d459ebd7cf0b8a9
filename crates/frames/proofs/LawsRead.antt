-- What is read out of a frame obeys the layout.
use Rattle.std.proofs.Common.{◌≡◌, ℕ, ◌+◌, ◌/◌, ◌%◌, ◌<◌, ◌≤◌, Bool, true, cond, eqb, ltb, List, [], ◌∷◌, length, get_or, take, drop, IfOk, Some, None, Ok, Err, Option, Result, sym, refl, ◌∙◌, subst, arith, w8, Fits}
use Rattle.std.proofs.lemmas.List.{take_rest}
use Rattle.std.proofs.lemmas.Bool.{cond_both, ltb-false, eqb-true, and_parts}
use Rattle.std.proofs.lemmas.Bool.Decides.{nat_tests}
use Rattle.std.specs.List.{between}
use Rattle.vocabulary.specs.Timers.{gprs_seconds}
use Rattle.vocabulary.specs.declared.values.Lai.{Lai}
use Rattle.vocabulary.specs.declared.values.Rai.{Rai}
use Rattle.identities.specs.declared.values.Signature.{Signature}
use Rattle.identities.specs.declared.values.Tmsi.{Tmsi}
use Rattle.frames.specs.Causes.{cause_of}
use Rattle.vocabulary.specs.Places.{rai_in, lai_in, rai_octets}
use Rattle.frames.specs.Decoded.{accepted, onward, framed, packet_accept, attach_accept, attach_reject, detach_accept, update_accept, update_reject, location_accepted, location_accept, location_rejected, location_reject, begins, by_kind, decoded}
use Rattle.frames.specs.Elements.{nothing, walk, judged, packet_found, packet_elements, circuit_found, circuit_elements}
use Rattle.frames.specs.Laws.{NoMarks, NoMarkArea, NoMarkTmsi, NoMarkSignature, NoMarkIdentity, NoMarksPacket, AreaStands, Elements, PacketValues, CircuitValues, ValuesStand, Obeys, frame_kind, fixed_octets, side_of}
use Rattle.frames.specs.declared.downlink.Downlink.{Downlink}
use Rattle.frames.specs.declared.downlink.Downlink.TheVariants.{AttachAccept, AttachReject, DetachAccept, UpdateAccept, UpdateReject, LocationAccept, LocationReject}
use Rattle.frames.specs.declared.downlink.MobileIdentity.{MobileIdentity}
use Rattle.frames.specs.declared.downlink.MobileIdentity.TheVariants as identity
use Rattle.frames.specs.declared.downlink.CircuitElements.{CircuitElements}
use Rattle.frames.specs.declared.downlink.PacketAccept.{PacketAccept}
use Rattle.frames.specs.declared.downlink.PacketElements.{PacketElements}
use Rattle.frames.specs.declared.faults.ElementFault.{ElementFault}
use Rattle.frames.specs.declared.faults.FrameFault.{FrameFault}
use Rattle.frames.specs.declared.faults.FrameFault.TheVariants.{BadValue}
use Rattle.frames.specs.declared.found.Found.{Found}
use Rattle.frames.specs.declared.tags.Side.{Side}
use Rattle.frames.specs.declared.tags.Side.TheVariants.{Packet, Circuit}
use Rattle.frames.proofs.LawsAreas.{from, take_from, lai_stands, rai_stands}
use Rattle.frames.proofs.LawsElements.{octets_drop, whole_elements}
use Rattle.frames.proofs.LawsPlaces.{decimal_places}
use Rattle.frames.proofs.LawsSlots.{packet_values, circuit_values}

real_area : (a : Lai) → NoMarkArea a
real_area a mark = let h = a.lawful in grind (arith, nat_tests)

real_tmsi : (t : Option Tmsi) → NoMarkTmsi t
real_tmsi None = tt
real_tmsi (Some t) = λ mark. let h = t.lawful in grind (arith, nat_tests)

real_signature : (g : Option Signature) → NoMarkSignature g
real_signature None = tt
real_signature (Some g) = λ mark. let h = g.lawful in grind (arith, nat_tests)

real_identity : (i : Option MobileIdentity) → NoMarkIdentity i
real_identity None = tt
real_identity (Some (identity.Tmsi t)) = real_tmsi (Some t)
real_identity (Some (identity.Imsi i)) = tt

real_packet : (es : PacketElements) → NoMarksPacket es
real_packet es = (real_signature es.signature, real_tmsi es.p_tmsi)

real : (m : Downlink) → NoMarks m
real (AttachAccept a) = (real_area a.rai.lai, real_packet a.elements)
real (AttachReject c es) = real_packet es
real (DetachAccept es) = real_packet es
real (UpdateAccept a) = (real_area a.rai.lai, real_packet a.elements)
real (UpdateReject c es) = real_packet es
real (LocationAccept a es) = (real_area a, real_identity es.identity)
real (LocationReject c es) = real_identity es.identity

first_two : (a b : ℕ) (xs : List ℕ) → 2 ≤ length xs → begins a b xs ≡ true → take 2 xs ≡ a ∷ b ∷ []
first_two a b xs h e =
    let both = and_parts (eqb (get_or xs 0 0) a) (eqb (get_or xs 1 0) b) e in
    let one = eqb-true (get_or xs 0 0) a both.0 in
    let two = eqb-true (get_or xs 1 0) b both.1 in
    take_from 2 0 xs h ∙ (λ k. one k ∷ two k ∷ [])

judged_right : {X : Type 0} (bad low : Option ℕ) (x y : X) → judged bad low x ≡ Ok y → (bad ≡ None) × (low ≡ None) × (x ≡ y)
judged_right (Some at) low x y e = cc
judged_right None (Some at) x y e = cc
judged_right None None x y e = (refl, refl, cc)

onward_made : {X Y : Type 0} (r : Result X ElementFault) (next : X → Result Y FrameFault) (P : Y → Type 0)
    → ((x : X) → r ≡ Ok x → IfOk (next x) P) → IfOk (onward r next) P
onward_made (Err e) next P then = tt
onward_made (Ok x) next P then = then x refl

framed_made : {Y : Type 0} (side : Side) (n : ℕ) (xs : List ℕ) (next : Found → Result Y FrameFault) (P : Y → Type 0)
    → ((f : Found) → n ≤ length xs → walk side nothing (n + 1) (drop n xs) 0 ≡ Ok f → IfOk (next f) P) → IfOk (framed side n xs next) P
framed_made side n xs next P then =
    cond_both (ltb (length xs) n) _ _ (λ r. IfOk r P) (λ cut. tt)
    (λ fits. onward_made (walk side nothing (n + 1) (between n (length xs) xs) 0) next P
    (λ f e. then f (ltb-false _ _ fits) (subst (λ ys. walk side nothing (n + 1) ys 0 ≡ Ok f) (take_rest xs n) e)))

accepted_made : (frame : PacketAccept → Downlink) (r : Result PacketElements ElementFault) (accept : PacketElements → PacketAccept) (P : Downlink → Type 0)
    → ((es : PacketElements) → r ≡ Ok es → P (frame (accept es))) → IfOk (accepted frame (onward r (λ es. Ok (accept es)))) P
accepted_made frame (Err e) accept P then = tt
accepted_made frame (Ok es) accept P then = then es refl

accept_made : (frame : PacketAccept → Downlink) (timer at : ℕ) (area : Option Rai) (f : Found) (P : Downlink → Type 0)
    → ((a : PacketAccept) → area ≡ Some a.rai → packet_elements f ≡ Ok a.elements → P (frame a)) → IfOk (accepted frame (packet_accept timer at area f)) P
accept_made frame timer at None f P then = tt
accept_made frame timer at (Some rai) f P then =
    accepted_made frame (packet_elements f) (λ es. record { t3312 = gprs_seconds timer; rai = rai; elements = es }) P
    (λ es right. then (record { t3312 = gprs_seconds timer; rai = rai; elements = es }) refl right)

location_made : (area : Option Lai) (f : Found) (P : Downlink → Type 0)
    → ((a : Lai) (es : CircuitElements) → area ≡ Some a → circuit_elements f ≡ Ok es → P (LocationAccept a es)) → IfOk (location_accepted area f) P
location_made None f P then = tt
location_made (Some a) f P then = onward_made (circuit_elements f) (λ es. Ok (LocationAccept a es)) P (λ es right. then a es refl right)

module _ (xs : List ℕ) (octets : (i : ℕ) → get_or xs i 0 < 256) (least : 2 ≤ length xs) (most : length xs ≤ 251) where
  abbrev Lawful : Downlink → Type 0
  Lawful m = Obeys m xs

  obeys : (m : Downlink) → take 2 xs ≡ frame_kind m → fixed_octets m ≤ length xs → Elements (side_of m) (drop (fixed_octets m) xs) × ValuesStand m (drop (fixed_octets m) xs) → AreaStands m xs → Obeys m xs
  obeys m kind fixed after area =
      record { within = (least, most); kind = kind; fixed = fixed; elements = after.0; values = after.1; no_marks = real m; area = area; places = decimal_places m }

  packet_after : (n : ℕ) (f : Found) (es : PacketElements) → walk Packet nothing (n + 1) (drop n xs) 0 ≡ Ok f → packet_elements f ≡ Ok es → Elements Packet (drop n xs) × PacketValues es (drop n xs)
  packet_after n f es e right =
      let told = judged_right f.bad f.low (packet_found f) es right in
      let small = octets_drop n xs octets in
      (whole_elements Packet f (n + 1) (drop n xs) small told.1 e, packet_values f es (n + 1) (drop n xs) told.2 small told.0 e)

  circuit_after : (n : ℕ) (f : Found) (es : CircuitElements) → walk Circuit nothing (n + 1) (drop n xs) 0 ≡ Ok f → circuit_elements f ≡ Ok es → Elements Circuit (drop n xs) × CircuitValues es (drop n xs)
  circuit_after n f es e right =
      let told = judged_right f.bad f.low (circuit_found f) es right in
      let small = octets_drop n xs octets in
      (whole_elements Circuit f (n + 1) (drop n xs) small told.1 e, circuit_values f es (n + 1) (drop n xs) told.2 small told.0 e)

  -- an accept whose result is right, with its area at place k
  accept_obeys : (n k timer at : ℕ) (right : Bool) (message : PacketAccept → Downlink) → k + 6 ≤ n
      → ((a : PacketAccept) → n ≤ length xs → Elements Packet (drop n xs) × PacketValues a.elements (drop n xs) → rai_octets (Some a.rai) ≡ take 6 (drop k xs) → Obeys (message a) xs)
      → IfOk (framed Packet n xs (λ f. cond right (accepted message (packet_accept timer at (rai_in (from 6 k xs)) f)) (Err (BadValue 3)))) Lawful
  accept_obeys n k timer at right message within made =
      framed_made Packet n xs (λ f. cond right (accepted message (packet_accept timer at (rai_in (from 6 k xs)) f)) (Err (BadValue 3))) Lawful
      (λ f long e. cond_both right _ _ (λ r. IfOk r Lawful)
      (λ _. accept_made message timer at (rai_in (from 6 k xs)) f Lawful
      (λ a stands right. made a long (packet_after n f a.elements e right) (rai_stands k xs octets a.rai (omega arith) stands)))
      (λ _. tt))

  attach_accept_obeys : take 2 xs ≡ 0x08 ∷ 0x02 ∷ [] → IfOk (attach_accept xs) Lawful
  attach_accept_obeys kind =
      accept_obeys 11 5 (get_or xs 3 0) 6 (eqb (get_or xs 2 0 % 16) 1) AttachAccept (omega arith) (λ a long after area. obeys (AttachAccept a) kind long after area)

  update_accept_obeys : take 2 xs ≡ 0x08 ∷ 0x09 ∷ [] → IfOk (update_accept xs) Lawful
  update_accept_obeys kind =
      accept_obeys 10 4 (get_or xs 3 0) 5 (eqb (get_or xs 2 0 / 16) 0) UpdateAccept (omega arith) (λ a long after area. obeys (UpdateAccept a) kind long after area)

  -- a message whose fixed octets are followed by the elements of the packet side
  packet_obeys : (n : ℕ) (message : PacketElements → Downlink) → ((es : PacketElements) → n ≤ length xs → Elements Packet (drop n xs) × PacketValues es (drop n xs) → Obeys (message es) xs)
      → IfOk (framed Packet n xs (λ f. onward (packet_elements f) (λ es. Ok (message es)))) Lawful
  packet_obeys n message made =
      framed_made Packet n xs (λ f. onward (packet_elements f) (λ es. Ok (message es))) Lawful
      (λ f long e. onward_made (packet_elements f) (λ es. Ok (message es)) Lawful (λ es right. made es long (packet_after n f es e right)))

  attach_reject_obeys : take 2 xs ≡ 0x08 ∷ 0x04 ∷ [] → IfOk (attach_reject xs) Lawful
  attach_reject_obeys kind = packet_obeys 3 (AttachReject (cause_of (get_or xs 2 0))) (λ es long after. obeys (AttachReject (cause_of (get_or xs 2 0)) es) kind long after tt)

  update_reject_obeys : take 2 xs ≡ 0x08 ∷ 0x0b ∷ [] → IfOk (update_reject xs) Lawful
  update_reject_obeys kind = packet_obeys 4 (UpdateReject (cause_of (get_or xs 2 0))) (λ es long after. obeys (UpdateReject (cause_of (get_or xs 2 0)) es) kind long after tt)

  detach_accept_obeys : take 2 xs ≡ 0x08 ∷ 0x06 ∷ [] → IfOk (detach_accept xs) Lawful
  detach_accept_obeys kind = packet_obeys 3 DetachAccept (λ es long after. obeys (DetachAccept es) kind long after tt)

  location_accept_obeys : take 2 xs ≡ 0x05 ∷ 0x02 ∷ [] → IfOk (location_accept xs) Lawful
  location_accept_obeys kind =
      framed_made Circuit 7 xs (location_accepted (lai_in (from 5 2 xs))) Lawful
      (λ f long e. location_made (lai_in (from 5 2 xs)) f Lawful
      (λ a es stands right. obeys (LocationAccept a es) kind long (circuit_after 7 f es e right) (lai_stands 2 xs octets a long stands)))

  location_reject_obeys : take 2 xs ≡ 0x05 ∷ 0x04 ∷ [] → IfOk (location_reject xs) Lawful
  location_reject_obeys kind =
      framed_made Circuit 3 xs (location_rejected (get_or xs 2 0)) Lawful
      (λ f long e. onward_made (circuit_elements f) (λ es. Ok (LocationReject (cause_of (get_or xs 2 0)) es)) Lawful
      (λ es right. obeys (LocationReject (cause_of (get_or xs 2 0)) es) kind long (circuit_after 3 f es e right) tt))

  -- one kind, or else another
  either : (a b : ℕ) (this others : Result Downlink FrameFault) → (take 2 xs ≡ a ∷ b ∷ [] → IfOk this Lawful) → IfOk others Lawful → IfOk (cond (begins a b xs) this others) Lawful
  either a b this others here later = cond_both (begins a b xs) this others (λ r. IfOk r Lawful) (λ e. here (first_two a b xs least e)) (λ _. later)

  by_kind_obeys : IfOk (by_kind xs) Lawful
  by_kind_obeys =
      either 0x08 0x02 _ _ attach_accept_obeys
      (either 0x08 0x04 _ _ attach_reject_obeys
      (either 0x08 0x06 _ _ detach_accept_obeys
      (either 0x08 0x09 _ _ update_accept_obeys
      (either 0x08 0x0b _ _ update_reject_obeys
      (either 0x05 0x02 _ _ location_accept_obeys
      (either 0x05 0x04 _ _ location_reject_obeys tt))))))

decoded_obeys : (xs : List ℕ) → ((i : ℕ) → get_or xs i 0 < 256) → IfOk (decoded xs) (λ m. Obeys m xs)
decoded_obeys xs octets =
    cond_both (ltb (length xs) 2) _ _ (λ r. IfOk r (λ m. Obeys m xs)) (λ _. tt)
    (λ least. cond_both (ltb 251 (length xs)) _ _ (λ r. IfOk r (λ m. Obeys m xs)) (λ _. tt)
    (λ most. by_kind_obeys xs octets (ltb-false _ _ least) (ltb-false _ _ most)))

pub read_obeys : (xs : List ℕ) (r : Result Downlink FrameFault) → ((i : ℕ) → Fits w8 (get_or xs i 0)) → r ≡ decoded xs → IfOk r (λ m. Obeys m xs)
read_obeys xs r octets e = subst (λ x. IfOk x (λ m. Obeys m xs)) (sym e) (decoded_obeys xs (λ i. omega (arith, octets i)))
