use Rattle.std.proofs.Common.{◌≡◌, not, arith}
use Rattle.quantity.specs.Measure.{is_zero}
use Rattle.book.specs.Calls.{held_at}
use Rattle.book.proofs.Ranges.{count_more}
use Rattle.book.proofs.counting.count_quarters.Goals as goal

pub loop-quarter-preserved : goal.loop-quarter-preserved
loop-quarter-preserved g c =
    grind (arith, count_more (λ t. not (is_zero g.B.Q.Quantity.measure (held_at g.B.Q.Quantity.measure (g.B.Book.holdings c.args.book.now) c.args.provider t))) c.loop-quarter.quarter)

pub returns-clause-value : goal.returns-clause-value
returns-clause-value g c = let last : c.loop-quarter.quarter ≡ 100 = omega arith in rw last at c.loop-quarter.invariant.0
