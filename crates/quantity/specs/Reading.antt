-- Which direction a word tells: the one whose word it is, and no other word tells one.
use Rattle.std.specs.Prelude.{◌≡◌, ℕ, List, Ok, Err, Result, ◌≢◌}
use Rattle.quantity.specs.declared.direction.Direction.{Direction}
use Rattle.quantity.specs.declared.direction.UnknownDirection.{UnknownDirection}
use Rattle.quantity.specs.Directions.{text}

abbrev pub Reads : List ℕ → Result Direction UnknownDirection → Type 0
Reads word (Ok direction) = word ≡ text direction
Reads word (Err unknown) = (direction : Direction) → word ≢ text direction
