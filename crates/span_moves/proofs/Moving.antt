-- A span that is lowered for the giver and then raised for the taker.
use Rattle.std.proofs.Common.{◌≡◌, ℕ, true, is_some, Option, refl, ap, ◌∙◌, arith}
use mathlib.Core.Path.{fun_ext}
use Rattle.std.proofs.lemmas.Bool.Decides.{nat_tests}
use Rattle.quantity.specs.Measure.{Measure}
use Rattle.book.specs.Grid.{Grid, amounts}
use Rattle.book.specs.Admissions.{Admission}
use Rattle.span_moves.specs.declared.change.Change.TheVariants.{Lowering, Raising}
use Rattle.span_moves.specs.Spans.{next, spanned, left_after}
use Rattle.span_moves.specs.Ready.{Welcome}
use Rattle.span_moves.specs.Moves.{moved_holdings, moved}
use Rattle.span_moves.proofs.Alike.{next_same, became_row, left_row}

module _ {Q R : Type 0} (m : Measure Q R) (held held1 : Grid Q) (giver taker : ℕ) (q : Q) (lo hi : ℕ) (apart : giver ≡ taker → ⊥) (lowered : amounts m held1 ≡ spanned m held Lowering giver q lo hi) where
  -- the lowering leaves the taker's holdings
  same : (u : ℕ) → m.amount (held1 taker u) ≡ m.amount (held taker u)
  unfolding amounts spanned
  same u = rw (ap (λ g. g taker u) lowered) (grind (arith, nat_tests))

  pub still_takes : (t : ℕ) → is_some (next m Raising (held taker t) q) ≡ true → is_some (next m Raising (held1 taker t) q) ≡ true
  still_takes t h = grind (arith, next_same m (held1 taker t) (held taker t) q q (same t) refl Raising)

  pub still_welcome : (places : ℕ) (admission : ℕ → ℕ → Q → Admission) (t : ℕ) → Welcome m held places admission Raising taker q t → Welcome m held1 places admission Raising taker q t
  still_welcome places admission t w a e = w a (e ∙ same t)

  -- the count of the raisings is that of the holdings at first
  pub same_left : (free : Option ℕ) (n : ℕ) → left_after m held1 Raising taker q free lo n ≡ left_after m held Raising taker q free lo n
  same_left free n = left_row m held held1 taker q q same refl Raising free lo n

  pub moved_is : spanned m held1 Raising taker q lo hi ≡ moved m held giver taker q lo hi
  unfolding amounts spanned moved moved_holdings
  moved_is = fun_ext (λ x. fun_ext (λ u. rw (ap (λ g. g x u) lowered) (grind (arith, nat_tests, became_row m held held1 taker q q same refl Raising u))))
