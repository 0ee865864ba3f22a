use Rattle.std.proofs.Common.{◌≡◌}
use Rattle.book.specs.Grid.{Grid, amounts}
use Rattle.span_moves.specs.Moves.{unwelcome}
use Rattle.span_moves.proofs.Firsts.{Clear}
use Rattle.span_moves.proofs.span_change.SpanChange.check_admitted.Given as goal

abbrev pub invariant-loop-quarter : goal.invariant-loop-quarter
invariant-loop-quarter g l =
    (other : Grid g.row.Q.Denot) (r : g.row.Q.Denot) → amounts g.Q.Quantity.measure other ≡ amounts g.Q.Quantity.measure (g.B.Book.holdings l.book) → g.Q.Quantity.measure.amount r ≡ g.Q.Quantity.measure.amount l.self.quantity → Clear (unwelcome g.Q.Quantity.measure other (g.B.Book.places l.book) (g.B.Book.admission l.book) l.self.change l.self.provider.number r) l.self.span.first l.quarter
