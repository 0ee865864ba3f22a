-- The number of each answer, followed by its values.
use Rattle.std.specs.Prelude.{ℕ, List, [], ◌∷◌, Some, None, Option, Ok, Err, Result}
use Rattle.refusals.specs.declared.refusal.Refusal.{Refusal}
use Rattle.refusals.specs.Numbers.{refusal_number}
use Rattle.requests.specs.Numbers.{status_number}
use Rattle.day_calls.specs.declared.calls.NotCalled.{NotCalled}
use Rattle.day_calls.specs.declared.calls.NotCalled.TheVariants.{NoSuchDay, NotInThisStage, NoMemory}
use Rattle.day_calls.specs.declared.calls.Answer.{Answer}
use Rattle.day_calls.specs.declared.calls.Answer.TheVariants.{Opened, Awarded, Placed, GatePassed, Held, Lacking, Standing}
use Rattle.day_calls.specs.declared.calls.NotDone.{NotDone}
use Rattle.day_calls.specs.declared.calls.NotDone.TheVariants.{Refused, NotCalled as NotMade}

-- an answer as its number with its values, and the quantity that it tells, if any
pub record Said (Q : Type 0) : Type 0 where
  pub numbers : List ℕ
  pub quantity : Option Q

abbrev pub numbered : {Q : Type 0} → List ℕ → Said Q
numbered ns = record { numbers = ns; quantity = None }

abbrev pub quantified : {Q : Type 0} → List ℕ → Q → Said Q
quantified ns q = record { numbers = ns; quantity = Some q }

-- why a call was not made
abbrev pub not_called_number : NotCalled → ℕ
not_called_number NoSuchDay = 1
not_called_number NotInThisStage = 2
not_called_number NoMemory = 3

-- what a call came to: its answer, or why it was not done
abbrev pub Outcome : Type 0 → Type 0
Outcome Q = Result (Answer Q) NotDone

-- 0 and the kind for a call that was taken, 0 and 0 for one that was not made, else the number of the refusal
abbrev pub said : {Q : Type 0} → Outcome Q → Said Q
said (Ok Opened) = numbered (0 ∷ (1 ∷ []))
said (Ok Awarded) = numbered (0 ∷ (2 ∷ []))
said (Ok (Placed place)) = numbered (0 ∷ (3 ∷ (place ∷ [])))
said (Ok GatePassed) = numbered (0 ∷ (4 ∷ []))
said (Ok (Held q)) = quantified (0 ∷ (5 ∷ [])) q
said (Ok (Lacking x)) = numbered (0 ∷ (6 ∷ (x.up ∷ (x.down ∷ []))))
said (Ok (Standing status)) = numbered (0 ∷ (7 ∷ status_number status))
said (Err (Refused refusal)) = numbered (refusal_number refusal)
said (Err (NotMade why)) = numbered (0 ∷ (0 ∷ (not_called_number why ∷ [])))

-- a call that is refused, or answered
abbrev pub unless : {Q : Type 0} → Option Refusal → Said Q → Said Q
unless None answer = answer
unless (Some refusal) answer = numbered (refusal_number refusal)

-- a call that the stage does not allow
abbrev pub not_in_stage : {Q : Type 0} → Said Q
not_in_stage = said (Err (NotMade NotInThisStage))
