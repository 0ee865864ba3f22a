-- A call that is performed as defined keeps the law.
use Rattle.std.proofs.Common.{ℕ}
use Rattle.quantity.specs.Measure.{Measure}
use Rattle.day_calls.specs.Calls.{LentDayCall}
use Rattle.day_calls.specs.Answers.{Outcome}
use Rattle.day_calls.specs.Days.{DayState, answered, stage_after, held_after, requests_after, sheet_after}
use Rattle.laws.specs.Laws.{Performed, KeepsLaw}
use Rattle.laws.proofs.Theorem.{kept}

module _ {Q R : Type 0} {m : Measure Q R} {tenths : Q → ℕ → ℕ} {directions : ℕ} {before after : DayState Q R} {call : LentDayCall Q} {outcome : Outcome Q} where
  -- where this is unfolded, what a call answers and leaves is unfolded too
  unfoldable pub lawful : Performed m tenths directions before call outcome after → record { performed : Performed m tenths directions before call outcome after; law : KeepsLaw m tenths directions before call outcome after }
  unfolding answered stage_after held_after requests_after sheet_after
  lawful p = record { performed = p; law = kept m tenths directions before after call outcome p }
