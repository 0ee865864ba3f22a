use Rattle.std.proofs.Common.{arith}
use Rattle.std.proofs.lemmas.Bool.Decides.{nat_tests}
use Rattle.full_book.specs.Rows.{blanked}
use Rattle.full_book.proofs.rows.blank.Goals as goal

pub returns-then-rows-ge3200 : goal.returns-then-rows-ge3200
unfolding blanked
returns-then-rows-ge3200 g c = rw (c.fill.ensures, c.row.ensures, c.zero.ensures) (grind (arith, nat_tests))
