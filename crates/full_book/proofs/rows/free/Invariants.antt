use Rattle.std.proofs.Common.{◌≡◌, ◌+◌, ◌*◌}
use Rattle.book.specs.Grid.{total, filled}
use Rattle.full_book.specs.Rows.{rows_held}
use Rattle.full_book.proofs.rows.free.Given as goal

abbrev pub invariant-loop-provider : goal.invariant-loop-provider
invariant-loop-provider g l = l.free + total (λ p. total (filled g.K.Quantity.measure (rows_held g.K.Quantity.measure l.rows) p) 100) l.provider ≡ 100 * l.provider
