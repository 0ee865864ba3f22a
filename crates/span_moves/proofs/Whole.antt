-- What refuses a whole change or move, of all holdings and quantities of the same amounts.
use Rattle.std.proofs.Common.{◌≡◌, ℕ, ◌≤◌, [], ◌∷◌, None, sym, refl, ap, ◌∙◌, arith}
use Rattle.quantity.specs.Measure.{Measure}
use Rattle.book.specs.Grid.{Grid, put, amounts}
use Rattle.book.specs.Admissions.{Admission}
use Rattle.book.proofs.Grids.{put_here, put_same}
use Rattle.book.proofs.Changes.{amounts_put}
use Rattle.refusals.specs.First.{first_some}
use Rattle.span_moves.specs.declared.change.Change.{Change}
use Rattle.span_moves.specs.declared.change.Change.TheVariants.{Lowering, Raising}
use Rattle.span_moves.specs.Spans.{Alike, first_of, crowding, count, barred_sum, unfit, unadmitted, left_after}
use Rattle.span_moves.specs.Ready.{Welcome}
use Rattle.span_moves.specs.Moves.{unwelcome, free_places, change_checks, move_checks}
use Rattle.span_moves.proofs.Firsts.{clear_from}
use Rattle.span_moves.proofs.Alike.{free_alike, fits_alike, lefts_alike}

module _ {Q R : Type 0} (m : Measure Q R) (held : Grid Q) (q : Q) (other : Grid Q) (r : Q) (e : amounts m other ≡ amounts m held) (f : m.amount r ≡ m.amount q) (places : ℕ) (admission : ℕ → ℕ → Q → Admission) (first last : ℕ) where
  pub change_checks-alike : (change : Change) (p : ℕ) → change_checks m other places admission change p first last r ≡ first_some (first_of (unfit m held change p q) first (count first last) ∷ (first_of (unwelcome m other places admission change p r) first (count first last) ∷ (crowding (left_after m held change p q (free_places m held places admission) first (count first last)) ∷ [])))
  change_checks-alike change p = rw (fits_alike m held other e q r f change p first (count first last), free_alike m held other e places admission, lefts_alike m held other e q r f change p (free_places m held places admission) first (count first last)) refl

  pub move_checks-alike : (giver taker : ℕ) → move_checks m other places admission giver taker first last r ≡ first_some (first_of (unfit m held Lowering giver q) first (count first last) ∷ (first_of (unfit m held Raising taker q) first (count first last) ∷ (first_of (unadmitted m other admission taker r) first (count first last) ∷ (crowding (left_after m held Raising taker q (left_after m held Lowering giver q (free_places m held places admission) first (count first last)) first (count first last)) ∷ []))))
  move_checks-alike giver taker = rw (fits_alike m held other e q r f Lowering giver first (count first last), fits_alike m held other e q r f Raising taker first (count first last), free_alike m held other e places admission, lefts_alike m held other e q r f Lowering giver (free_places m held places admission) first (count first last), lefts_alike m held other e q r f Raising taker (left_after m held Lowering giver q (free_places m held places admission) first (count first last)) first (count first last)) refl

-- where no quarter is unwelcome, every holding of these amounts may be changed
pub welcome_from : {Q R : Type 0} (m : Measure Q R) (held : Grid Q) (places : ℕ) (admission : ℕ → ℕ → Q → Admission) (change : Change) (p first last : ℕ) (q : Q) → Alike m held q (λ other r. first_of (unwelcome m other places admission change p r) first (count first last)) None → (t : ℕ) → first ≤ t → t ≤ last → Welcome m held places admission change p q t
unfolding amounts
welcome_from m held places admission Lowering p first last q barred t l h = tt
welcome_from m held places admission Raising p first last q barred t l h =
    λ a e.
    let same : amounts m (put held p t a) ≡ amounts m held = amounts_put m held p t a ∙ put_same (amounts m held) p t (m.amount a) (sym e) in
    ap (λ x. barred_sum (admission p t) p t (m.joined x q)) (sym (put_here held p t a)) ∙ clear_from (unadmitted m (put held p t a) admission p q) first (count first last) t (sym (barred (put held p t a) q same refl)) l (omega arith)
