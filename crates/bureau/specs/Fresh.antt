-- A day that was not opened yet, over books that hold nothing and a list without requests.
use Rattle.std.specs.Prelude.{◌≡◌, true}
use Rattle.quantity.specs.Measure.{Measure}
use Rattle.day.specs.Opening.{nothing_held}
use Rattle.day_calls.specs.declared.desk.Stage.TheVariants.{Unopened}
use Rattle.day_calls.specs.Days.{DayState}

pub record Fresh {Q R : Type 0} (m : Measure Q R) (s : DayState Q R) : Type 0 where
  pub unopened : s.stage ≡ Unopened
  pub empty : nothing_held m s.held s.bids s.requests ≡ true
