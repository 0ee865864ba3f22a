-- A taken award adds its quantity to the holdings of its block, and its earnings to the sheet.
use Rattle.std.proofs.Common.{◌≡◌, ℕ, ◌+◌, ◌<◌, true, cond, ◌&&◌, eqb, List, None, Option, sym, ap, ◌∙◌, arith}
use Rattle.std.proofs.lemmas.Bool.Decides.{nat_tests}
use Rattle.quantity.specs.Measure.{Measure}
use Rattle.book.specs.Grid.{Grid, amounts}
use Rattle.book.specs.Admissions.{Admission}
use Rattle.refusals.specs.declared.refusal.Refusal.{Refusal}
use Rattle.refusals.proofs.Firsts.{front_clear, front_passes}
use Rattle.requests.specs.declared.request.Request.{Request}
use Rattle.span_moves.proofs.Shares.{raise_adds}
use Rattle.awards.specs.Blocks.{count_of_block, in_block}
use Rattle.awards.specs.Sheets.{SheetView}
use Rattle.awards.specs.Awards.{award_earns, award_refusal, award_after, award_sheet}
use Rattle.awards.proofs.Quarters.{last_end}
use Rattle.day.specs.Opening.{day_length}
use Rattle.laws.specs.Volumes.{from_giver, to_taker}
use Rattle.laws.proofs.Stands.{Words, passed, Volume, Earnings}

-- every day has more than 80 quarters
pub long_day : (quarters : ℕ) → day_length quarters ≡ true → 80 < quarters
long_day quarters e = grind (arith, nat_tests)

module _ {Q R : Type 0} (m : Measure Q R) (held : Grid Q) (places : ℕ) (admission : ℕ → ℕ → Q → Admission) (tenths : Q → ℕ → ℕ) (directions quarters : ℕ) (sheet : SheetView) (provider block : ℕ) (q : Q) (prices : List ℕ) where
  abbrev refused : Option Refusal
  refused = award_refusal m held places admission directions quarters sheet.awards provider block q prices

  abbrev held_then : Grid m.Amount
  held_then = award_after m held places admission directions quarters sheet.awards provider block q prices

  abbrev sheet_then : SheetView
  sheet_then = award_sheet m held places admission tenths directions quarters provider block q prices sheet

  -- what the award gives a provider in a quarter
  abbrev given : ℕ → ℕ → m.Amount
  given p t = cond (eqb p provider && in_block quarters block t) (m.amount q) m.none

  pub award_adds : day_length quarters ≡ true → refused ≡ None → (p t : ℕ) → held_then p t ≡ m.plus (given p t) (amounts m held p t)
  unfolding award_refusal award_after
  award_adds l e p t = grind (arith, nat_tests, front_clear, front_passes, raise_adds m held places admission, last_end)

  pub award_volume :
      (awards : ℕ → ℕ → m.Amount) (words : Words Q) (rs : List (Request R)) → day_length quarters ≡ true → refused ≡ None →
      Volume m awards words (amounts m held) rs → Volume m (λ p t. m.plus (given p t) (awards p t)) words held_then rs
  award_volume awards words rs l e volume p t hp ht =
      ap (λ x. m.plus x (passed m (from_giver m p t) words rs)) (award_adds l e p t)
      ∙ (m.groups (given p t) (amounts m held p t) (passed m (from_giver m p t) words rs)
      ∙ (ap (m.plus (given p t)) (volume p t hp ht)
      ∙ sym (m.groups (given p t) (awards p t) (passed m (to_taker m p t) words rs))))

  pub award_earnings :
      (earns : ℕ → ℕ) → refused ≡ None → Earnings m earns sheet →
      Earnings m (λ p. cond (eqb p provider) (award_earns (tenths q) prices directions (count_of_block quarters block)) 0 + earns p) sheet_then
  unfolding award_sheet
  award_earnings earns e had p hp = rw e (grind (arith, had p hp))
