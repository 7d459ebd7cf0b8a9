-- Every network that a message names has decimal digits.
use Rattle.std.proofs.Common.{◌≡◌, ℕ, true, List, [], ◌∷◌, Some, None, Option}
use Rattle.std.proofs.lemmas.Bool.{ltb-true, and_parts}
use Rattle.std.specs.List.{AllByRecursion}
use Rattle.vocabulary.specs.Marks.{third_digit}
use Rattle.vocabulary.specs.declared.values.Plmn.{Plmn}
use Rattle.frames.specs.Laws.{ThirdDigit, Decimal, DecimalEntry, DecimalList, DecimalPlaces}
use Rattle.frames.specs.declared.downlink.Downlink.{Downlink}
use Rattle.frames.specs.declared.downlink.Downlink.TheVariants.{AttachAccept, AttachReject, DetachAccept, UpdateAccept, UpdateReject, LocationAccept, LocationReject}
use Rattle.frames.specs.declared.downlink.PlmnList.{PlmnList}

decimal_third : (n : Option ℕ) → third_digit n ≡ true → ThirdDigit n
decimal_third None e = tt
decimal_third (Some n) e = ltb-true n 10 e

decimal : (p : Plmn) → Decimal p
decimal p =
    let a = and_parts _ _ p.lawful in
    let b = and_parts _ _ a.1 in
    let c = and_parts _ _ b.1 in
    let d = and_parts _ _ c.1 in
    let e = and_parts _ _ d.1 in
    record {
      country = (ltb-true _ _ a.0, ltb-true _ _ b.0, ltb-true _ _ c.0);
      network = (ltb-true _ _ d.0, ltb-true _ _ e.0);
      third = decimal_third p.mnc3 e.1;
    }

decimal_entry : (p : Option Plmn) → DecimalEntry p
decimal_entry None = tt
decimal_entry (Some p) = decimal p

decimal_entries : (ps : List (Option Plmn)) → AllByRecursion DecimalEntry ps
decimal_entries [] = tt
decimal_entries (p ∷ ps) = (decimal_entry p, decimal_entries ps)

decimal_list : (l : Option PlmnList) → DecimalList l
decimal_list None = tt
decimal_list (Some l) = decimal_entries l.entries

pub decimal_places : (m : Downlink) → DecimalPlaces m
decimal_places (AttachAccept a) = (decimal a.rai.lai.plmn, decimal_list a.elements.equivalents)
decimal_places (AttachReject c es) = decimal_list es.equivalents
decimal_places (DetachAccept es) = decimal_list es.equivalents
decimal_places (UpdateAccept a) = (decimal a.rai.lai.plmn, decimal_list a.elements.equivalents)
decimal_places (UpdateReject c es) = decimal_list es.equivalents
decimal_places (LocationAccept a es) = (decimal a.plmn, decimal_list es.equivalents)
decimal_places (LocationReject c es) = decimal_list es.equivalents
