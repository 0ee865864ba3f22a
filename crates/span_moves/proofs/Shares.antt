-- What a move or a raise that is not refused passes on, in amounts.
use Rattle.std.proofs.Common.{◌≡◌, ℕ, ◌+◌, ◌≤◌, None, refl, arith}
use Rattle.std.proofs.lemmas.Bool.Decides.{nat_tests}
use Rattle.quantity.specs.Measure.{Measure}
use Rattle.book.specs.Grid.{Grid, amounts}
use Rattle.book.specs.Admissions.{Admission}
use Rattle.refusals.proofs.Firsts.{none_both}
use Rattle.span_moves.specs.declared.change.Change.TheVariants.{Lowering, Raising}
use Rattle.span_moves.specs.Spans.{first_of, count, becomes, unfit, spanned}
use Rattle.span_moves.specs.Moves.{span_refusal, move_refusal, moved_holdings, moved, share, Passed}
use Rattle.span_moves.proofs.Firsts.{all_fit}

pub moved_amounts : {Q R : Type 0} (m : Measure Q R) (held : Grid Q) (giver taker : ℕ) (q : Q) (lo hi : ℕ) → amounts m (moved_holdings m held giver taker q lo hi) ≡ moved m held giver taker q lo hi
unfolding moved
moved_amounts m held giver taker q lo hi = refl

-- what a lowering takes, and a raise adds
module _ {Q R : Type 0} (m : Measure Q R) (held : Grid Q) (p first last : ℕ) (q : Q) where
  lost : first_of (unfit m held Lowering p q) first (count first last) ≡ None → (u : ℕ) → first ≤ u → u ≤ last → m.plus (m.amount q) (m.amount (becomes m held Lowering p q u)) ≡ m.amount (held p u)
  lost e u l h = grind (arith, all_fit m held Lowering p first last q e u l h, m.remains (held p u) q)

  won : first_of (unfit m held Raising p q) first (count first last) ≡ None → (u : ℕ) → first ≤ u → u ≤ last → m.amount (becomes m held Raising p q u) ≡ m.plus (m.amount q) (m.amount (held p u))
  won e u l h = grind (arith, all_fit m held Raising p first last q e u l h, m.joins (held p u) q, m.commutes (m.amount q) (m.amount (held p u)))

-- a raise that is not refused adds the share of the span to every holding
pub raise_adds : {Q R : Type 0} (m : Measure Q R) (held : Grid Q) (places : ℕ) (admission : ℕ → ℕ → Q → Admission) (p first last : ℕ) (q : Q) → span_refusal m held places admission Raising p first last q ≡ None → (x u : ℕ) → spanned m held Raising p q first (last + 1) x u ≡ m.plus (share m p first last (m.amount q) x u) (amounts m held x u)
unfolding span_refusal spanned amounts
raise_adds m held places admission p first last q e x u =
    let fit : first_of (unfit m held Raising p q) first (count first last) ≡ None = grind (arith, none_both) in
    grind (arith, nat_tests, won m held p first last q fit u, m.neutral (m.amount (held x u)))

-- a move that is not refused passes the share of the span from the giver to the taker
pub move_passes : {Q R : Type 0} (m : Measure Q R) (held : Grid Q) (places : ℕ) (admission : ℕ → ℕ → Q → Admission) (giver taker first last : ℕ) (q : Q) → move_refusal m held places admission giver taker first last q ≡ None → Passed m (amounts m held) (moved m held giver taker q first (last + 1)) giver taker first last (m.amount q)
unfolding move_refusal moved moved_holdings amounts
move_passes m held places admission giver taker first last q e x u =
    let apart : giver ≡ taker → ⊥ = λ h. grind (arith, nat_tests, none_both) in
    let gives : first_of (unfit m held Lowering giver q) first (count first last) ≡ None = grind (arith, none_both) in
    let takes : first_of (unfit m held Raising taker q) first (count first last) ≡ None = grind (arith, none_both) in
    grind (arith, nat_tests, lost m held giver first last q gives u, won m held taker first last q takes u, m.neutral (m.amount (held x u)), m.neutral (m.amount (becomes m held Raising taker q u)))
