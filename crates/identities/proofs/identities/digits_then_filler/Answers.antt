use Rattle.std.proofs.Common.{◌≡◌, ◌+◌, ◌&&◌, leb, length, drop, sym, ap, ◌∙◌, arith}
use Rattle.std.proofs.lemmas.List.{at_drop_more, at_drop_all}
use Rattle.identities.specs.Marks.{digits_then_filler}
use Rattle.identities.proofs.identities.digits_then_filler.Goals as goal

pub loop-i-preserved : goal.loop-i-preserved
loop-i-preserved c =
    let step = at_drop_more (digits_then_filler c.args.len c.loop-i.i) c.args.places.now c.loop-i.i 0 c.loop-i-test.true in
    let rest = digits_then_filler c.args.len (c.loop-i.i + 1) (drop (c.loop-i.i + 1) c.args.places.now) in
    ap (λ b. b && rest) c.if-not-place_fits.ensures ∙ sym step ∙ c.loop-i.invariant

pub returns-then-not-place_fits : goal.returns-then-not-place_fits
returns-then-not-place_fits c =
    let step = at_drop_more (digits_then_filler c.args.len c.loop-i.i) c.args.places.now c.loop-i.i 0 c.loop-i-test.true in
    let rest = digits_then_filler c.args.len (c.loop-i.i + 1) (drop (c.loop-i.i + 1) c.args.places.now) in
    ap (λ b. b && rest) c.if-not-place_fits.ensures ∙ sym step ∙ c.loop-i.invariant

pub returns : goal.returns
returns c =
    let all : length c.args.places.now ≡ c.loop-i.i = omega arith in
    ap (λ n. leb c.args.len n) all
    ∙ sym (at_drop_all (digits_then_filler c.args.len c.loop-i.i) c.args.places.now c.loop-i.i c.loop-i-test.false)
    ∙ c.loop-i.invariant
