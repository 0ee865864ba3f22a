use Rattle.std.proofs.Common.{sym, refl, arith}
use Rattle.std.proofs.lemmas.Result.{err_from_is_err_and}
use Rattle.span_moves.specs.declared.change.Change.TheVariants.{Lowering}
use Rattle.span_moves.specs.Spans.{count}
use Rattle.span_moves.specs.Moves.{unwelcome}
use Rattle.span_moves.proofs.Firsts.{first_of-hit, first_of-clear}
use Rattle.span_moves.proofs.span_change.SpanChange.check_admitted.Goals as goal

pub returns-in-Lowering : goal.returns-in-Lowering
returns-in-Lowering g c other r e f = rw c.in-Lowering.is (sym (first_of-clear (unwelcome g.Q.Quantity.measure other (g.B.Book.places c.args.book.now) (g.B.Book.admission c.args.book.now) Lowering c.args.self.provider.number r) c.args.self.span.first (count c.args.self.span.first c.args.self.span.last) (λ k l h. refl)))

pub returns-in_err-check_one : goal.returns-in_err-check_one
returns-in_err-check_one g c other r e f =
    let p = err_from_is_err_and c.from_residual.result c.from_residual.ensures.1 in
    rw (p.1, p.2) (sym (first_of-hit _ _ _ c.loop-quarter.quarter _ (omega arith) (omega arith) (c.loop-quarter.invariant other r e f) (sym (rw (c.at.ensures.provider, c.at.ensures.quarter) at (c.in_err-check_one.ensures other r e f)))))

pub returns-in_ok-check_one : goal.returns-in_ok-check_one
returns-in_ok-check_one g c other r e f = grind (arith, first_of-clear, c.loop-quarter.invariant other r e f, c.in_ok-check_one.ensures other r e f)
