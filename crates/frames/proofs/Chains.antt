-- Parts that stand one after the other, and whether they have room.
use Rattle.std.proofs.Common.{◌≡◌, ℕ, ◌+◌, ◌<◌, ◌≤◌, cond, ltb, List, [], length, get_or, take, Bor, Ok, Err, Result}
use Rattle.std.proofs.lemmas.Bool.{cond_both, ltb-false}
use Rattle.std.proofs.lemmas.List.Folds.{length-flat_map-take}
use Rattle.frames.specs.Written.{joined}
use Rattle.frames.specs.declared.uplink.WriteFault.{WriteFault}
use Rattle.frames.specs.declared.uplink.WriteFault.TheVariants.{NoRoom}

-- the parts before one, and it, are no longer than all parts
pub part_within : (parts : List (Bor (List ℕ))) (i : ℕ) → i < length parts
    → length (joined (take i parts)) + length (get_or parts i (record { ref_ptr = (0, 0); now = [] })).now ≤ length (joined parts)
part_within parts i h = length-flat_map-take (λ (part : Bor (List ℕ)). part.now) parts i (record { ref_ptr = (0, 0); now = [] }) h

-- a message that is written has room
pub room_for : (n m room : ℕ) → ◌≡◌ {A = Result ℕ WriteFault} (Ok n) (cond (ltb room m) (Err NoRoom) (Ok m)) → m ≤ room
room_for n m room =
    cond_both (ltb room m) _ _ (λ (r : Result ℕ WriteFault). ◌≡◌ {A = Result ℕ WriteFault} (Ok n) r → m ≤ room)
    (λ short e. cc)
    (λ fits e. ltb-false room m fits)
