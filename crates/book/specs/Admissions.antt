-- Why a book does not admit a quantity, if it does not.
use Rattle.std.specs.Prelude.{Option}
use Rattle.book.specs.declared.answers.Cause.{Cause}

abbrev pub Admission : Type 0
Admission = Option Cause
