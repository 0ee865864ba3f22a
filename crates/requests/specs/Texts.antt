-- The words of a status.
use Rattle.std.specs.Prelude.{ℕ, List, ◌++◌, codes, Some, None}
use Rattle.refusals.specs.Texts.{refusal_text}
use Rattle.requests.specs.declared.request.Status.{Status}
use Rattle.requests.specs.declared.request.Status.TheVariants.{WaitingForCounterpart, BalanceOk, BalanceError, Confirmed, Rejected, Waiting, Accepted, Declined, Lapsed}

-- a rejected request tells the refusal that kept its move from being made, if one did
abbrev pub status_text : Status → List ℕ
status_text WaitingForCounterpart = codes "Waiting for Counterpart"
status_text BalanceOk = codes "Balance OK"
status_text BalanceError = codes "Balance Error"
status_text Confirmed = codes "Confirmed"
status_text (Rejected None) = codes "Rejected"
status_text (Rejected (Some refusal)) = codes "Rejected " ++ refusal_text refusal
status_text Waiting = codes "Waiting"
status_text Accepted = codes "Accepted"
status_text Declined = codes "Declined"
status_text Lapsed = codes "Lapsed"
