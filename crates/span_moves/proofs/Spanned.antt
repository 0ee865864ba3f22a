-- The amounts of a span that is changed quarter by quarter.
use Rattle.std.proofs.Common.{◌≡◌, ℕ, ◌+◌, ◌≤◌, arith}
use mathlib.Core.Path.{fun_ext}
use Rattle.std.proofs.lemmas.Bool.Decides.{nat_tests}
use Rattle.quantity.specs.Measure.{Measure}
use Rattle.book.specs.Grid.{Grid, put, amounts}
use Rattle.span_moves.specs.declared.change.Change.{Change}
use Rattle.span_moves.specs.Spans.{becomes, spanned}

module _ {Q R : Type 0} (m : Measure Q R) (held : Grid Q) (change : Change) (p : ℕ) (q : Q) (lo : ℕ) where
  pub spanned-none : spanned m held change p q lo lo ≡ amounts m held
  unfolding spanned amounts
  spanned-none = fun_ext (λ x. fun_ext (λ u. grind (arith, nat_tests)))

  -- from a quarter on nothing is changed yet
  pub spanned-later : (t u x : ℕ) → t ≤ u → spanned m held change p q lo t x u ≡ m.amount (held x u)
  unfolding spanned
  spanned-later t u x h = grind (arith, nat_tests)

  pub put-spanned : (t : ℕ) → lo ≤ t → put (spanned m held change p q lo t) p t (m.amount (becomes m held change p q t)) ≡ spanned m held change p q lo (t + 1)
  unfolding spanned put
  put-spanned t l = fun_ext (λ x. fun_ext (λ u. grind (arith, nat_tests)))
