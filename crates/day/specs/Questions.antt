-- What the questions of a day answer.
use Rattle.std.specs.Prelude.{ℕ, ◌-◌, Bool, cond, not, [], ◌∷◌, Some, None, Option, nat_lt}
use Rattle.refusals.specs.declared.refusal.Refusal.{Refusal}
use Rattle.refusals.specs.declared.refusal.Refusal.TheVariants.{NoSuchSpan}
use Rattle.refusals.specs.Checks.{no_provider}
use Rattle.refusals.specs.First.{first_some, when}
use Rattle.requests.specs.declared.request.Status.{Status}
use Rattle.requests.specs.declared.request.Status.TheVariants.{WaitingForCounterpart}
use Rattle.requests.specs.declared.request.Request.{Request}
use Rattle.day.specs.declared.stages.Day.{Day}

-- no such provider, or the quarter is outside the day
abbrev pub question_refusal : Day → ℕ → ℕ → Option Refusal
question_refusal day p t = first_some (no_provider p ∷ (when (not (nat_lt t day.quarters)) NoSuchSpan ∷ []))

-- what is held above what is bid, nothing in an exempt quarter
abbrev pub lacking : Bool → ℕ → ℕ → ℕ
lacking exempt held bid = cond exempt 0 (held - bid)

-- the place was never used
abbrev pub status_refusal : {R : Type 0} → Option (Request R) → Option Refusal
status_refusal None = Some NoSuchSpan
status_refusal (Some request) = None

abbrev pub status_of : {R : Type 0} → Option (Request R) → Status
status_of None = WaitingForCounterpart
status_of (Some request) = request.status
