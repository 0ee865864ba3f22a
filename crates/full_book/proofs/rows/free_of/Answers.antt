use Rattle.std.proofs.Common.{◌≡◌, arith}
use Rattle.quantity.specs.Measure.{is_zero}
use Rattle.book.specs.Calls.{held_at}
use Rattle.book.proofs.Ranges.{count_more}
use Rattle.full_book.specs.Rows.{rows_held}
use Rattle.full_book.proofs.rows.free_of.Goals as goal

pub loop-quarter-preserved : goal.loop-quarter-preserved
loop-quarter-preserved g c =
    grind (arith, count_more (λ t. is_zero g.K.Quantity.measure (held_at g.K.Quantity.measure (rows_held g.K.Quantity.measure c.args.rows.now) c.args.provider t)) c.loop-quarter.quarter)

pub returns : goal.returns
returns g c = let last : c.loop-quarter.quarter ≡ 100 = omega arith in rw last at c.loop-quarter.invariant.0
