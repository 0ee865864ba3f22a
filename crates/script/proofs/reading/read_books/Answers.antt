use Rattle.script.proofs.Numbers.{parsed_number}
use Rattle.script.proofs.Taking.{taken_then}
use Rattle.std.proofs.Common.{refl}
use Rattle.script.proofs.reading.read_books.Goals as goal

pub returns-in_ok-places-in-sparse : goal.returns-in_ok-places-in-sparse
returns-in_ok-places-in-sparse c =
    let places = c.in_ok-places-in-sparse in
    let is = places.ensures.digits in
    let sparse = rw c.in-sparse.is at c.in_ok-next_word.ensures in
    (refl, (_, (is, parsed_number 16 _ places.places places.ensures.value.0 is), taken_then sparse c.in_ok-next_word-in-sparse.ensures))
