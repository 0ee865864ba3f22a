use Rattle.std.proofs.Common.{◌≡◌, ◌≤◌, not}
use Rattle.quantity.specs.Measure.{is_zero}
use Rattle.std.specs.List.{count_by, range_with_len}
use Rattle.book.specs.Calls.{held_at}
use Rattle.book.proofs.counting.count_quarters.Given as goal

abbrev pub invariant-loop-quarter : goal.invariant-loop-quarter
invariant-loop-quarter g l =
    (l.count ≡ count_by (λ t. not (is_zero g.B.Q.Quantity.measure (held_at g.B.Q.Quantity.measure (g.B.Book.holdings l.book) l.provider t))) (range_with_len 0 l.quarter)) × (l.count ≤ l.quarter)
