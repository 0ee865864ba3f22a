use Rattle.std.proofs.lemmas.List.{drop-set-lt}
use Rattle.full_book.proofs.row_book.RowBook.change.Goals as goal

pub returns-then-slots-ge3200-clause-beyond : goal.returns-then-slots-ge3200-clause-beyond
returns-then-slots-ge3200-clause-beyond g c = rw c.write.ensures.slots (drop-set-lt 3200 _ _ _ c.place.ensures.bound)
