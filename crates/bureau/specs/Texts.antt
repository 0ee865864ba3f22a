-- The words of a reply.
use Rattle.std.specs.Prelude.{ℕ, List, ◌++◌, codes, decimal, Some, Option, Ok, Err}
use Rattle.day_calls.specs.declared.calls.Answer.TheVariants.{Opened}
use Rattle.day_calls.specs.Answers.{Outcome}
use Rattle.day_calls.specs.Texts.{answer_text, not_done_text}

-- what a call of the day with a handle came to: an opening tells the handle
abbrev pub outcome_text : {Q : Type 0} → ℕ → (Q → Option (List ℕ)) → ℕ → Outcome Q → Option (List ℕ)
outcome_text directions quantity day (Ok Opened) = Some (codes "opened " ++ decimal day)
outcome_text directions quantity day (Ok answer) = answer_text directions quantity answer
outcome_text directions quantity day (Err why) = Some (not_done_text why)
