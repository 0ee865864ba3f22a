-- The position of a provider and a quarter: there is one in the range, and none outside.
use Rattle.std.specs.Prelude.{◌≡◌, ℕ, false, Ok, Err, Result}
use Rattle.book.specs.Grid.{in_range}
use Rattle.book.specs.declared.answers.BookRefusal.{BookRefusal}
use Rattle.book.specs.declared.answers.BookRefusal.TheVariants.{OutsideRange}
use Rattle.book.specs.declared.range.Position.{Position}

abbrev pub Placed : ℕ → ℕ → Result Position BookRefusal → Type 0
Placed p t (Ok at) = (at.provider ≡ p) × (at.quarter ≡ t)
Placed p t (Err refusal) = (refusal ≡ OutsideRange) × (in_range p t ≡ false)
