use Rattle.std.proofs.Common.{◌≡◌, Some, sym, arith}
use Rattle.std.proofs.lemmas.Grind.{common_steps}
use Rattle.std.proofs.lemmas.Result.{err_from_is_err_and}
use Rattle.span_moves.specs.Spans.{unless_some}
use Rattle.span_moves.proofs.Firsts.{first_of-hit, first_of-clear}
use Rattle.span_moves.proofs.span_change.SpanChange.check_fits.Goals as goal

pub returns-in_err-ok_or : goal.returns-in_err-ok_or
returns-in_err-ok_or g c =
    let p = err_from_is_err_and c.from_residual.result c.from_residual.ensures.1 in
    let k : unless_some c.misfit.result c.next-changed.result ≡ Some c.in_err-ok_or.field-0.0 = grind arith in
    let h = rw (c.misfit.ensures, c.next-changed.ensures, c.held.ensures, c.at-at.ensures.provider, c.at-at.ensures.quarter) at k in
    rw (p.1, p.2) (sym (first_of-hit _ _ _ c.loop-quarter.quarter _ (omega arith) (omega arith) c.loop-quarter.invariant h))

pub returns-in_ok-ok_or : goal.returns-in_ok-ok_or
returns-in_ok-ok_or g c = grind (arith, common_steps, first_of-clear)
