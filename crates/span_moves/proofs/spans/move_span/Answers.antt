use Rattle.std.proofs.Common.{arith}
use Rattle.span_moves.specs.Moves.{move_refusal}
use Rattle.span_moves.proofs.Shares.{move_passes}
use Rattle.span_moves.proofs.spans.move_span.Goals as goal

pub returns-clause-passed : goal.returns-clause-passed
unfolding move_refusal
returns-clause-passed g c =
    let parts = c.in_ok-planned.ensures.parts in
    let changed = rw (parts.0, parts.1, parts.2, parts.3, parts.4) at c.apply.ensures.after in
    rw changed (move_passes g.B.Q.Quantity.measure (g.B.Book.holdings c.args.book.now) (g.B.Book.places c.args.book.now) (g.B.Book.admission c.args.book.now) c.args.passage.giver c.args.passage.taker c.args.passage.first c.args.passage.last c.args.quantity (grind arith))
