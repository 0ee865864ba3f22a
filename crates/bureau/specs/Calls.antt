-- The calls of a bureau.
use Rattle.std.specs.Prelude.{ℕ, List}
use Rattle.std.specs.Borrow.{Bor}
use Rattle.bureau.specs.declared.calls.Call.{Call}

-- a call that is lent its prices
abbrev pub LentCall : Type 0 → Type 0
LentCall Q = Call Q (Bor (List ℕ))
