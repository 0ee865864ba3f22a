use Rattle.std.proofs.Common.{◌≡◌, ◌-◌, Some}
use Rattle.span_moves.specs.Spans.{left_after}
use Rattle.span_moves.proofs.span_change.SpanChange.count_places.Given as goal

abbrev pub invariant-loop-quarter : goal.invariant-loop-quarter
invariant-loop-quarter g l = (left_after g.Q.Quantity.measure (g.B.Book.holdings l.book) l.self.change l.self.provider.number l.self.quantity (Some l.free) l.self.span.first (l.quarter - l.self.span.first) ≡ Some l.left)
