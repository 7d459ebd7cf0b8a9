use Rattle.std.proofs.Common.{◌≡◌, ℕ, Some, None, Ok, Err, Result, refl, arith}
use Rattle.card.specs.declared.values.Card.{Card}
use Rattle.stores.specs.Laws.{Now}
use Rattle.stores.specs.Slots.{Slot, loading, loaded, needing, written}
use Rattle.stores.specs.declared.faults.StoreFault.{StoreFault}
use Rattle.stores.proofs.laws.slot_laws_hold.Goals as goal

ok_err : (fault : StoreFault) → ◌≡◌ {A = Result (Unit {0}) StoreFault} (Ok tt) (Err fault) → ⊥
ok_err fault e = let z : ◌≡◌ {A = ℕ} 0 1 = cc in omega arith

err_ok : (fault : StoreFault) → ◌≡◌ {A = Result (Unit {0}) StoreFault} (Err fault) (Ok tt) → ⊥
err_ok fault e = let z : ◌≡◌ {A = ℕ} 0 1 = cc in omega arith

refused_load : (new : Card) (slot : Slot) (fault : StoreFault) → loading slot ≡ Err fault → loaded new slot ≡ slot
refused_load new None fault e = absurd (ok_err fault e)
refused_load new (Some c) fault e = refl

refused_eject : (slot : Slot) (fault : StoreFault) → needing slot ≡ Err fault → slot ≡ None
refused_eject None fault e = refl
refused_eject (Some c) fault e = absurd (ok_err fault e)

refused_write : (change : Card → Card) (slot : Slot) (fault : StoreFault) → needing slot ≡ Err fault → written change slot ≡ slot
refused_write change None fault e = refl
refused_write change (Some c) fault e = absurd (ok_err fault e)

load : (new : Card) (slot : Slot) → loading slot ≡ Ok tt → Now (loaded new slot) (λ c. c ≡ new)
load new None e = refl
load new (Some c) e = absurd (err_ok _ e)

pub returns : goal.returns
returns c = record {
  laws = record {
    full = λ c. refl;
    free = refl;
    none = refl;
    there = λ c. refl;
    refused_load = refused_load;
    refused_eject = refused_eject;
    refused_write = refused_write;
    load = load;
    write_imsi = λ new old. (refl, refl, refl, refl);
    write_packet = λ new old. (refl, refl, refl, refl);
    write_circuit = λ new old. (refl, refl, refl, refl);
    write_forbidden = λ new old. (refl, refl, refl, refl);
  };
}
