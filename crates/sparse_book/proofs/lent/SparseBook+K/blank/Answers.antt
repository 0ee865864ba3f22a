use Rattle.sparse_book.proofs.Blank.{blank_apart, blank_empty}
use Rattle.sparse_book.proofs.lent.SparseBook+K.blank.Goals as goal

pub invariant_of-result : goal.invariant_of-result
invariant_of-result g c = record { apart = rw (c.filled.ensures.slots, c.filled.ensures.contents) (blank_apart c.args.slots.now) }

pub returns-clause-empty : goal.returns-clause-empty
returns-clause-empty g c = rw (c.filled.ensures.slots, c.filled.ensures.contents) (blank_empty g.K.Quantity.measure c.args.slots.now)
