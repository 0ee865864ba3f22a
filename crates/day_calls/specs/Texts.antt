-- The words of what a call of a day answers, and of why it was not done.
use Rattle.std.specs.Prelude.{ℕ, List, ◌++◌, codes, decimal, nat_eq, cond, Some, Option}
use Rattle.std.specs.Fmt.{◌++?◌}
use Rattle.quantity.specs.declared.up_down.UpDown.{UpDown}
use Rattle.refusals.specs.Texts.{refusal_text}
use Rattle.requests.specs.Texts.{status_text}
use Rattle.day_calls.specs.declared.calls.NotCalled.{NotCalled}
use Rattle.day_calls.specs.declared.calls.NotCalled.TheVariants.{NoSuchDay, NotInThisStage, NoMemory}
use Rattle.day_calls.specs.declared.calls.Answer.{Answer}
use Rattle.day_calls.specs.declared.calls.Answer.TheVariants.{Opened, Awarded, Placed, GatePassed, Held, Lacking, Standing}
use Rattle.day_calls.specs.declared.calls.NotDone.{NotDone}
use Rattle.day_calls.specs.declared.calls.NotDone.TheVariants.{Refused, NotCalled as NotMade}

abbrev pub not_called_text : NotCalled → List ℕ
not_called_text NoSuchDay = codes "no such day"
not_called_text NotInThisStage = codes "not in this stage"
not_called_text NoMemory = codes "no memory"

abbrev pub not_done_text : NotDone → List ℕ
not_done_text (Refused refusal) = codes "refused " ++ refusal_text refusal
not_done_text (NotMade why) = not_called_text why

-- what is missing, in so many directions as the quantity has
abbrev pub missing_text : ℕ → UpDown ℕ → List ℕ
missing_text directions x = cond (nat_eq directions 1) (decimal x.up) (decimal x.up ++ (codes "/" ++ decimal x.down))

-- an answer, by the directions of the quantity and its words
abbrev pub answer_text : {Q : Type 0} → ℕ → (Q → Option (List ℕ)) → Answer Q → Option (List ℕ)
answer_text directions quantity Opened = Some (codes "opened")
answer_text directions quantity Awarded = Some (codes "awarded")
answer_text directions quantity (Placed place) = Some (codes "place " ++ decimal place)
answer_text directions quantity GatePassed = Some (codes "gate passed")
answer_text directions quantity (Held q) = Some (codes "holding ") ++? quantity q
answer_text directions quantity (Lacking x) = Some (codes "missing " ++ missing_text directions x)
answer_text directions quantity (Standing status) = Some (status_text status)
