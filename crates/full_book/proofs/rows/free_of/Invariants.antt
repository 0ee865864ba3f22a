use Rattle.std.proofs.Common.{◌≡◌, ◌≤◌}
use Rattle.quantity.specs.Measure.{is_zero}
use Rattle.std.specs.List.{count_by, range_with_len}
use Rattle.book.specs.Calls.{held_at}
use Rattle.full_book.specs.Rows.{rows_held}
use Rattle.full_book.proofs.rows.free_of.Given as goal

abbrev pub invariant-loop-quarter : goal.invariant-loop-quarter
invariant-loop-quarter g l =
    (l.free ≡ count_by (λ t. is_zero g.K.Quantity.measure (held_at g.K.Quantity.measure (rows_held g.K.Quantity.measure l.rows) l.provider t)) (range_with_len 0 l.quarter)) × (l.free ≤ l.quarter)
