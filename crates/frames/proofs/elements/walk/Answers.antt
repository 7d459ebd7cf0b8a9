use Rattle.std.proofs.Common.{◌≡◌, ℕ, ◌+◌, ◌-◌, ◌<◌, ◌≤◌, List, Err, length, take, drop, ap, ◌∙◌, arith, length-drop, ltb-false, ltb-true}
use Rattle.std.proofs.lemmas.List.{take_rest}
use Rattle.frames.specs.Elements.{walk, noted}
use Rattle.frames.specs.declared.faults.ElementFault.TheVariants.{Cut}
use Rattle.frames.proofs.Walks.{walk_cut, walk_more, walk_done}
use Rattle.frames.proofs.elements.walk.Goals as goal

pub returns-then-end-after : goal.returns-then-end-after
returns-then-end-after c =
    let xs = c.args.frame.now in
    let rest = c.loop-rest.rest.now in
    let after = take (length rest - 1) (drop 1 rest) in
    let some : 0 < length rest = omega (arith, ltb-false) in
    let one = take_rest rest 1 in
    let missing : length xs + 1 ≡ length xs - length rest + 1 + length after + 1 = omega (arith, ap length one, length-drop 1 rest, c.loop-rest.invariant.1) in
    record {
      value = ap (λ k. Err (Cut k)) missing ∙ walk_cut _ c.loop-rest.found _ rest _ _ some one c.span-start.ensures.to (omega arith) ∙ c.loop-rest.invariant.0;
    }

pub loop-rest-preserved : goal.loop-rest-preserved
loop-rest-preserved c =
    let xs = c.args.frame.now in
    let rest = c.loop-rest.rest.now in
    let after = take (length rest - 1) (drop 1 rest) in
    let to = c.span-start.ensures.to in
    let from = c.span-start.ensures.from in
    let some : 0 < length rest = omega (arith, ltb-false) in
    let one = take_rest rest 1 in
    let left = take_rest after c.span-start.result.end in
    let short : length after + 1 ≡ length rest = omega (arith, ap length one, length-drop 1 rest) in
    let within : length rest ≤ length xs = omega (arith, c.loop-rest.invariant.1) in
    let at : length xs - length after ≡ length xs - length rest + 1 = omega arith in
    let step =
    walk_more c.args.side c.loop-rest.found c.note.new.self (length xs - length rest + 1) rest after c.span-start.result.end some one to (omega arith)
    (c.note.ensures.after ∙ (λ k. noted (c.from.ensures k) c.loop-rest.found (take (to k - from k) (drop (from k) after)) (at k))) in
    let next : length xs - length (drop c.span-start.result.end after) + 1 ≡ length xs - length rest + 1 + 1 + c.span-start.result.end = omega (arith, length-drop c.span-start.result.end after) in (
      ap (λ (ys : List ℕ). walk c.args.side c.note.new.self (length xs - length ys + 1) ys 0) left
          ∙ ap (λ n. walk c.args.side c.note.new.self n (drop c.span-start.result.end after) 0) next ∙ step ∙ c.loop-rest.invariant.0,
      omega (arith, ap length left, length-drop c.span-start.result.end after),
    )

pub returns : goal.returns
returns c = record { value = walk_done _ _ _ c.loop-rest.rest.now (omega (arith, ltb-true)) ∙ c.loop-rest.invariant.0 }
