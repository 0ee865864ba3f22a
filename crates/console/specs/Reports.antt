-- What is printed of a line of a script.
use Rattle.std.specs.Prelude.{ℕ, List, ◌++◌, codes, decimal, Some, Option, Ok, Err, Result}
use Rattle.script.specs.Faults.{malformed_text}
use Rattle.script.specs.Texts.{setting_text, answer_text, not_done_text}
use Rattle.console.specs.declared.fault.Fault.{Fault}
use Rattle.console.specs.declared.fault.Fault.TheVariants.{Malformed, Refused}
use Rattle.console.specs.declared.report.Done.{Done}
use Rattle.console.specs.declared.report.Done.TheVariants.{Set, Called}

-- what a line answers that is done, by the words of a quantity
abbrev pub done_text : {Q : Type 0} → (Q → Option (List ℕ)) → Done Q → Option (List ℕ)
done_text quantity (Set setting) = Some (setting_text setting)
done_text quantity (Called answer) = answer_text quantity answer

-- the words of what was done, and otherwise why the line was refused, or its number and what is wrong with it
abbrev pub report_text : {T : Type 0} → (T → Option (List ℕ)) → ℕ → Result T Fault → Option (List ℕ)
report_text done_text number (Ok done) = done_text done
report_text done_text number (Err (Refused not_done)) = Some (codes "refused " ++ not_done_text not_done)
report_text done_text number (Err (Malformed what)) = Some (codes "line " ++ (decimal number ++ (codes ": " ++ malformed_text what)))
