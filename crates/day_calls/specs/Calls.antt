-- The calls of a day.
use Rattle.std.specs.Prelude.{ℕ, List}
use Rattle.std.specs.Borrow.{Bor}
use Rattle.day_calls.specs.declared.calls.DayCall.{DayCall}

-- a call that is lent its prices
abbrev pub LentDayCall : Type 0 → Type 0
LentDayCall Q = DayCall Q (Bor (List ℕ))
