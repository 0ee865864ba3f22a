-- The number of each status, followed by its cause.
use Rattle.std.specs.Prelude.{ℕ, List, [], ◌∷◌, Some, None}
use Rattle.refusals.specs.Numbers.{refusal_number}
use Rattle.requests.specs.declared.request.Status.{Status}
use Rattle.requests.specs.declared.request.Status.TheVariants.{WaitingForCounterpart, BalanceOk, BalanceError, Confirmed, Rejected, Waiting, Accepted, Declined, Lapsed}

abbrev pub status_number : Status → List ℕ
status_number WaitingForCounterpart = 1 ∷ []
status_number BalanceOk = 2 ∷ []
status_number BalanceError = 3 ∷ []
status_number Confirmed = 4 ∷ []
status_number (Rejected None) = 5 ∷ []
status_number (Rejected (Some cause)) = 5 ∷ refusal_number cause
status_number Waiting = 6 ∷ []
status_number Accepted = 7 ∷ []
status_number Declined = 8 ∷ []
status_number Lapsed = 9 ∷ []
