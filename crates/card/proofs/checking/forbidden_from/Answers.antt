use Rattle.std.proofs.Common.{get_or, [], Some, None, ap, sym, ◌∙◌}
use Rattle.card.specs.Given.{forbidden_from}
use Rattle.card.proofs.Networks.{more_from, turn, end, nothing_fits, one_more_fits}
use Rattle.card.proofs.checking.forbidden_from.Goals as goal

pub loop-octets-init : goal.loop-octets-init
unfolding forbidden_from
loop-octets-init c =
    (ap (λ ps. more_from ps c.args.given.now) c.empty-list.ensures.value, nothing_fits c.empty-list.result c.empty-list.ensures.value)

pub returns-in_err-list : goal.returns-in_err-list
returns-in_err-list c =
    let os = c.args.given.now in
    record {
      value = c.from_residual.ensures
          ∙ turn c.loop-octets.list os c.loop-octets.octets-index (forbidden_from os) None c.loop-octets-test.true
          c.in_err-list.ensures.value c.loop-octets.invariant.0;
    }

pub loop-octets-preserved : goal.loop-octets-preserved
loop-octets-preserved c =
    let os = c.args.given.now in (
      turn c.loop-octets.list os c.loop-octets.octets-index (forbidden_from os) (Some c.in_ok-list.list)
          c.loop-octets-test.true c.in_ok-list.ensures.value c.loop-octets.invariant.0,
      one_more_fits c.loop-octets.list c.in_ok-list.list (get_or os c.loop-octets.octets-index []) c.loop-octets.invariant.1 (sym c.in_ok-list.ensures.value),
    )

pub returns : goal.returns
returns c =
    let os = c.args.given.now in
    record { value = end c.loop-octets.list os c.loop-octets.octets-index (forbidden_from os) c.loop-octets.invariant.1 c.loop-octets-test.false c.loop-octets.invariant.0 }
