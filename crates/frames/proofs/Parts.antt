-- A frame that is taken apart into its fixed octets and what its elements gave.
use Rattle.std.proofs.Common.{◌≡◌, ℕ, ◌+◌, ◌≤◌, ltb, List, length, take, Ok, Err, Result, sym, ◌∙◌, ap, arith}
use Rattle.std.proofs.lemmas.Bool.{cond-false, cond_both, ltb-false}
use Rattle.std.specs.List.{between}
use Rattle.frames.specs.Decoded.{onward, framed}
use Rattle.frames.specs.Elements.{nothing, walk}
use Rattle.frames.specs.declared.downlink.Downlink.{Downlink}
use Rattle.frames.specs.declared.faults.ElementFault.{ElementFault}
use Rattle.frames.specs.declared.faults.FrameFault.{FrameFault}
use Rattle.frames.specs.declared.found.Found.{Found}
use Rattle.frames.specs.declared.tags.Side.{Side}
use Rattle.frames.proofs.LawsAreas.{from, take_from}

abbrev Taken : Type 0
Taken = Result (List ℕ × Found) FrameFault

-- the fixed octets and what was found, as they came out of a frame
abbrev pub Parts : Side → ℕ → List ℕ → List ℕ → Found → Type 0
Parts side n xs fixed found = ◌≡◌ {A = Taken} (Ok (fixed, found)) (framed side n xs (λ f. Ok (take n xs, f)))

onward_next : (r : Result Found ElementFault) (xs ys : List ℕ) (found : Found) (next : List ℕ → Found → Result Downlink FrameFault)
    → ◌≡◌ {A = Taken} (Ok (xs, found)) (onward r (λ f. Ok (ys, f))) → onward r (next ys) ≡ next xs found
onward_next (Err e) xs ys found next h = cc
onward_next (Ok f) xs ys found next h =
    let same : ◌≡◌ {A = List ℕ × Found} (ys, f) (xs, found) = cc in ap (λ (p : List ℕ × Found). next p.0 p.1) same

-- what follows on the parts of a frame is what the frame gives
pub after_parts : (side : Side) (n : ℕ) (xs fixed : List ℕ) (found : Found) (next : List ℕ → Found → Result Downlink FrameFault)
    → Parts side n xs fixed found → framed side n xs (next (from n 0 xs)) ≡ next fixed found
after_parts side n xs fixed found next =
    cond_both (ltb (length xs) n) _ _ (λ (r : Taken). ◌≡◌ {A = Taken} (Ok (fixed, found)) r → framed side n xs (next (from n 0 xs)) ≡ next fixed found)
    (λ cut h. cc)
    (λ fits h.
    let long : n ≤ length xs = ltb-false (length xs) n fits in
    cond-false (ltb (length xs) n) _ _ fits
    ∙ ap (λ ys. onward (walk side nothing (n + 1) (between n (length xs) xs) 0) (next ys)) (sym (take_from n 0 xs (omega arith)))
    ∙ onward_next (walk side nothing (n + 1) (between n (length xs) xs) 0) fixed (take n xs) found next h)
