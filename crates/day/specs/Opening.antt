-- What opening a day answers, and the day that it opens.
use Rattle.std.specs.Prelude.{ℕ, Bool, not, ◌&&◌, ◌||◌, List, [], ◌∷◌, length, negsuc, Option, ◌==◌, nat_le}
use Rattle.quantity.specs.Measure.{Measure}
use Rattle.book.specs.Grid.{Grid, taken}
use Rattle.refusals.specs.declared.refusal.Refusal.{Refusal}
use Rattle.refusals.specs.declared.refusal.Refusal.TheVariants.{NoSuchDayLength, NoSuchDayNumber, NotEmpty}
use Rattle.refusals.specs.First.{first_some, when}
use Rattle.day.specs.declared.stages.Day.{Day}

-- the lengths that a day has
abbrev pub day_length : ℕ → Bool
day_length quarters = quarters == 92 || (quarters == 96 || quarters == 100)

-- no holding of either book is not zero, in all of the range, and no place of the list is used
abbrev pub nothing_held : {Q R E : Type 0} → Measure Q R → Grid Q → Grid Q → List E → Bool
nothing_held m held bids xs = taken m held == 0 && (taken m bids == 0 && length xs == 0)

-- why a day is not opened, if it is not
abbrev pub opening_refusal : {Q R E : Type 0} → Measure Q R → ℕ → ℕ → Grid Q → Grid Q → List E → Option Refusal
opening_refusal m number quarters held bids xs =
    first_some
    (when (not (day_length quarters)) NoSuchDayLength
    ∷ (when (not (nat_le 1 number && nat_le number 31)) NoSuchDayNumber
    ∷ (when (not (nothing_held m held bids xs)) NotEmpty ∷ [])))

-- an opened day has taken no minute yet: its last one is the smallest
abbrev pub opened_day : ℕ → ℕ → Day
opened_day number quarters = record { number = number; quarters = quarters; minute = negsuc 2147483647 }
