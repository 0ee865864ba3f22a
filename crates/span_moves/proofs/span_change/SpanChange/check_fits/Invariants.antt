use Rattle.span_moves.specs.Spans.{unfit}
use Rattle.span_moves.proofs.Firsts.{Clear}
use Rattle.span_moves.proofs.span_change.SpanChange.check_fits.Given as goal

abbrev pub invariant-loop-quarter : goal.invariant-loop-quarter
invariant-loop-quarter g l = Clear (unfit g.Q.Quantity.measure (g.B.Book.holdings l.book) l.self.change l.self.provider.number l.self.quantity) l.self.span.first l.quarter
