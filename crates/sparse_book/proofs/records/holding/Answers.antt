use Rattle.std.proofs.Common.{arith}
use Rattle.sparse_book.proofs.Slots.{held_told}
use Rattle.sparse_book.proofs.records.holding.Goals as goal

pub returns : goal.returns
returns g c = rw (← c.in-Ok.ensures.0, ← c.in-Ok.ensures.1) (grind (arith, held_told))
