-- Holdings of the same amounts move alike.
use Rattle.std.proofs.Common.{◌≡◌, ℕ, Some, None, Option, sym, refl, ap, ◌∙◌, arith}
use mathlib.Core.Path.{fun_ext}
use Rattle.quantity.specs.Measure.{Measure}
use Rattle.book.specs.Grid.{Grid, amounts}
use Rattle.span_moves.specs.declared.change.Change.TheVariants.{Lowering, Raising}
use Rattle.refusals.specs.declared.refusal.Refusal.{Refusal}
use Rattle.refusals.specs.First.{unless_refused}
use Rattle.span_moves.specs.Moves.{moved_holdings, moved}
use Rattle.span_moves.proofs.Shares.{moved_amounts}
use Rattle.span_moves.proofs.Alike.{became_row}

module _ {Q R : Type 0} (m : Measure Q R) (held other : Grid Q) (q : Q) (e : amounts m other ≡ amounts m held) where
  rows : (p t : ℕ) → m.amount (other p t) ≡ m.amount (held p t)
  unfolding amounts
  rows p t = ap (λ (f : Grid m.Amount). f p t) e

  pub moved_alike : (giver taker lo hi : ℕ) → amounts m (moved_holdings m other giver taker q lo hi) ≡ amounts m (moved_holdings m held giver taker q lo hi)
  unfolding amounts moved_holdings
  moved_alike giver taker lo hi =
      fun_ext
      (λ x.
      fun_ext
      (λ u.
      let gives = became_row m held other giver q q (rows giver) refl Lowering u in
      let takes = became_row m held other taker q q (rows taker) refl Raising u in
      let stays = rows x u in
      grind arith))

  -- what a move leaves of holdings of the same amounts, made or refused
  pub left_alike : (o : Option Refusal) (giver taker lo hi : ℕ) → unless_refused o (moved m held giver taker q lo hi) (amounts m held) ≡ amounts m (unless_refused o (moved_holdings m other giver taker q lo hi) other)
  left_alike None giver taker lo hi = sym (moved_amounts m held giver taker q lo hi) ∙ sym (moved_alike giver taker lo hi)
  left_alike (Some x) giver taker lo hi = sym e
