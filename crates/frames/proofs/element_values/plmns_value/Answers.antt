use Rattle.std.proofs.Common.{◌≡◌, ◌∙◌, None, sym, rules, refl, arith, length-set}
use Rattle.std.proofs.lemmas.Bool.{eqb-false}
use Rattle.frames.proofs.LawsPlmns.{listed, chain_more, chain_refused, chain_full}
use Rattle.frames.proofs.element_values.plmns_value.Goals as goal

pub loop-place-init : goal.loop-place-init
loop-place-init c = (refl, refl)

pub returns-in_err-entry : goal.returns-in_err-entry
returns-in_err-entry c =
    let v = c.args.value.now in
    let none : c.from_residual.result ≡ None = search rules in
    none ∙ sym (listed v (omega (arith, eqb-false _ 0 (sym c.if-is_empty.ensures))) (omega arith) (omega arith) ∙ c.loop-place.invariant.0 ∙ chain_refused _ _ v _ (omega arith) (sym c.in_err-entry.ensures))

pub loop-place-preserved : goal.loop-place-preserved
loop-place-preserved c = (
  c.loop-place.invariant.0
      ∙ chain_more _ c.loop-place.place c.args.value.now (λ ps. record { entries = ps }) c.loop-place.entry-items c.in_ok-entry.field-0 (omega arith) refl c.loop-place-test.true (sym c.in_ok-entry.ensures),
  simp length-set c.loop-place.invariant.1,
)

pub returns : goal.returns
returns c =
    let v = c.args.value.now in
    sym (listed v (omega (arith, eqb-false _ 0 (sym c.if-is_empty.ensures))) (omega arith) (omega arith) ∙ c.loop-place.invariant.0 ∙ chain_full c.loop-place.place v (λ ps. record { entries = ps }) c.loop-place.entry-items c.loop-place.invariant.1 c.loop-place-test.false)
