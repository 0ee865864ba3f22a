-- What an award earns, answers and changes.
use Rattle.std.specs.Prelude.{ℕ, ◌+◌, ◌*◌, Bool, not, List, [], ◌∷◌, ◌++◌, length, Option, ◌==◌, nat_le, nat_lt, slice_index}
use Rattle.std.specs.List.{list_any}
use Rattle.quantity.specs.Measure.{Measure, is_zero}
use Rattle.book.specs.Grid.{Grid, amounts, total}
use Rattle.book.specs.Admissions.{Admission}
use Rattle.refusals.specs.Checks.{no_provider}
use Rattle.refusals.specs.First.{first_some, when, unless_refused}
use Rattle.refusals.specs.declared.refusal.Refusal.{Refusal}
use Rattle.refusals.specs.declared.refusal.Refusal.TheVariants.{NoSuchSpan, ZeroQuantity, WrongPriceCount, PriceTooLarge, TooManyAwards}
use Rattle.span_moves.specs.declared.change.Change.TheVariants.{Raising}
use Rattle.span_moves.specs.Spans.{spanned}
use Rattle.span_moves.specs.Moves.{span_refusal}
use Rattle.awards.specs.Accounts.{most_awards, most_cents}
use Rattle.awards.specs.Blocks.{first_of_block, last_of_block, count_of_block}
use Rattle.awards.specs.Sheets.{SheetView, entered}

-- what an award earns in one direction: the price for the tenths, in each quarter
abbrev pub earns_in : (ℕ → ℕ) → List ℕ → ℕ → ℕ → ℕ
earns_in tenths prices quarters d = slice_index prices d * tenths d * quarters

unfoldable pub award_earns : (tenths : ℕ → ℕ) (prices : List ℕ) (directions quarters : ℕ) → ℕ
award_earns tenths prices directions quarters = total (earns_in tenths prices quarters) directions

-- whether a price is above the highest
abbrev pub overpriced : List ℕ → Bool
overpriced prices = list_any (λ price. nat_lt most_cents price) prices

-- why an award is refused by itself, in this order; awards are those that the sheet has
abbrev pub award_conditions : {Q R : Type 0} → Measure Q R → (directions awards provider block : ℕ) → Q → List ℕ → List (Option Refusal)
award_conditions m directions awards provider block quantity prices =
    no_provider provider
    ∷ (when (nat_lt 6 block) NoSuchSpan
    ∷ (when (is_zero m quantity) ZeroQuantity
    ∷ (when (not (length prices == directions)) WrongPriceCount
    ∷ (when (overpriced prices) PriceTooLarge ∷ (when (nat_le most_awards awards) TooManyAwards ∷ [])))))

module _ {Q R : Type 0} (m : Measure Q R) (held : Grid Q) (places : ℕ) (admission : ℕ → ℕ → Q → Admission) where
  -- why an award is refused, if it is: by itself, or since its block cannot be raised
  unfoldable pub award_refusal : (directions quarters awards provider block : ℕ) → Q → List ℕ → Option Refusal
  award_refusal directions quarters awards provider block quantity prices =
      first_some (award_conditions m directions awards provider block quantity prices ++ (span_refusal m held places admission Raising provider (first_of_block quarters block) (last_of_block quarters block) quantity ∷ []))

  -- the obligations after an award
  unfoldable pub award_after : (directions quarters awards provider block : ℕ) → Q → List ℕ → Grid m.Amount
  award_after directions quarters awards provider block quantity prices =
      unless_refused (award_refusal directions quarters awards provider block quantity prices) (spanned m held Raising provider quantity (first_of_block quarters block) (last_of_block quarters block + 1)) (amounts m held)

  -- the sheet after an award of a quantity that has these tenths
  unfoldable pub award_sheet : (Q → ℕ → ℕ) → (directions quarters provider block : ℕ) → Q → List ℕ → SheetView → SheetView
  award_sheet tenths directions quarters provider block quantity prices sheet =
      unless_refused (award_refusal directions quarters sheet.awards provider block quantity prices) (entered provider (award_earns (tenths quantity) prices directions (count_of_block quarters block)) sheet) sheet
