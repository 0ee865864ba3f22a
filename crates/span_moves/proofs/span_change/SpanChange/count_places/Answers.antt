use Rattle.std.proofs.Common.{◌+◌, Some, arith}
use Rattle.quantity.specs.Measure.{is_zero}
use Rattle.span_moves.specs.Spans.{becomes}
use Rattle.span_moves.proofs.Lefts.{left_next, left_wanting}
use Rattle.span_moves.proofs.span_change.SpanChange.count_places.Goals as goal

pub returns-in_err-left : goal.returns-in_err-left
returns-in_err-left g c =
    let m = g.Q.Quantity.measure in
    let x = c.args.self in
    let held = g.B.Book.holdings c.args.book.now x.provider.number in
    grind (arith, left_next, left_wanting (λ t. is_zero m (held t)) (λ t. is_zero m (becomes m (g.B.Book.holdings c.args.book.now) x.change x.provider.number x.quantity t)) (Some c.args.free) x.span.first (c.loop-quarter.quarter + 1) (x.span.last + 1))
