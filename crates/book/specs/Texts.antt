-- The words of a layer's cause and of a book's refusals.
use Rattle.std.specs.Prelude.{ℕ, List, ◌++◌, codes, decimal}
use Rattle.quantity.specs.Directions.{text}
use Rattle.book.specs.declared.answers.Cause.{Cause}
use Rattle.book.specs.declared.answers.Cause.TheVariants.{Limit}
use Rattle.book.specs.declared.answers.BookRefusal.{BookRefusal}
use Rattle.book.specs.declared.answers.BookRefusal.TheVariants.{OutsideRange, NoRemainder, SumDoesNotFit, NotAdmitted, NoFreePlace}

abbrev pub cause_text : Cause → List ℕ
cause_text (Limit layer direction) = codes "layer " ++ (decimal layer ++ (codes " limit " ++ text direction))

abbrev pub refusal_text : BookRefusal → List ℕ
refusal_text OutsideRange = codes "outside-range"
refusal_text NoRemainder = codes "no-remainder"
refusal_text SumDoesNotFit = codes "sum-does-not-fit"
refusal_text (NotAdmitted cause) = codes "not-admitted " ++ cause_text cause
refusal_text NoFreePlace = codes "no-free-place"
