-- The number of each answer, followed by its values.
use Rattle.std.specs.Prelude.{ℕ, List, [], ◌∷◌, Some, None, Option}
use Rattle.quantity.specs.Directions.{number}
use Rattle.book.specs.declared.answers.Cause.{Cause}
use Rattle.book.specs.declared.answers.Cause.TheVariants.{Limit}
use Rattle.book.specs.Admissions.{Admission}
use Rattle.book.specs.declared.answers.BookRefusal.{BookRefusal}
use Rattle.book.specs.declared.answers.BookRefusal.TheVariants.{OutsideRange, NoRemainder, SumDoesNotFit, NotAdmitted, NoFreePlace}

abbrev pub cause_number : Cause → List ℕ
cause_number (Limit layer direction) = 0 ∷ (layer ∷ (number direction ∷ []))

abbrev pub admission_number : Admission → List ℕ
admission_number None = 0 ∷ []
admission_number (Some cause) = 1 ∷ cause_number cause

abbrev pub refusal_number : BookRefusal → List ℕ
refusal_number OutsideRange = 5 ∷ []
refusal_number NoRemainder = 16 ∷ []
refusal_number SumDoesNotFit = 17 ∷ []
refusal_number (NotAdmitted cause) = 18 ∷ cause_number cause
refusal_number NoFreePlace = 19 ∷ []

-- 0 where nothing is refused
abbrev pub answer_number : Option BookRefusal → List ℕ
answer_number None = 0 ∷ []
answer_number (Some refusal) = refusal_number refusal
