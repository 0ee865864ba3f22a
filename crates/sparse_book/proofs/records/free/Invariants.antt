use Rattle.std.proofs.Common.{◌≡◌, ◌≤◌, take}
use Rattle.sparse_book.specs.Records.{vacancies}
use Rattle.sparse_book.proofs.records.free.Given as goal

abbrev pub invariant-loop-slot : goal.invariant-loop-slot
invariant-loop-slot g l = (l.free ≡ vacancies g.K.Quantity.measure (take l.slot-index l.slots)) × (l.free ≤ l.slot-index)
