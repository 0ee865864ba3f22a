-- When a gate opens.
use Rattle.std.specs.Prelude.{[], ◌∷◌, ℤ, Some, None, Ok, Err, Option, Result, int_lt}
use Rattle.refusals.specs.declared.refusal.Refusal.{Refusal}
use Rattle.refusals.specs.declared.refusal.Refusal.TheVariants.{MinuteBeforeLast, TooEarly}
use Rattle.refusals.specs.First.{first_some, when}
use Rattle.gates.specs.declared.gate.Gate.{Gate}
use Rattle.day.specs.declared.stages.Day.{Day}
use Rattle.day.specs.Minutes.{opens_at}

-- why a gate does not open, if it does not
abbrev pub gate_refusal : Gate → Day → ℤ → Option Refusal
gate_refusal gate day minute = first_some (when (int_lt minute day.minute) MinuteBeforeLast ∷ (when (int_lt minute (opens_at gate)) TooEarly ∷ []))

-- the refusal that is handed back beside a stage
abbrev pub refusal_in : {N S : Type 0} → Result N (S × Refusal) → Option Refusal
refusal_in (Ok next) = None
refusal_in (Err back) = Some back.1
