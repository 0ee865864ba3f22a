-- The numbers and the words of the directions.
use Rattle.std.specs.Prelude.{ℕ, List, codes}
use Rattle.quantity.specs.declared.direction.Direction.{Direction}
use Rattle.quantity.specs.declared.direction.Direction.TheVariants.{Up, Down}

abbrev pub number : Direction → ℕ
number Up = 0
number Down = 1

-- of a value up and a value down the one in a direction
abbrev pub in_direction : {T : Type 0} → T → T → Direction → T
in_direction up down Up = up
in_direction up down Down = down

abbrev pub text : Direction → List ℕ
text Up = codes "up"
text Down = codes "down"
