-- An award by its refusals: of its own, and of the span that is raised.
use Rattle.std.proofs.Common.{◌≡◌, ℕ, ◌+◌, ◌<◌, ◌≤◌, true, false, List, [], ◌∷◌, Some, None, Option, sym, refl, ap, ◌∙◌, arith}
use Rattle.std.proofs.lemmas.Bool.Decides.{nat_tests}
use Rattle.quantity.specs.Measure.{Measure, is_zero}
use Rattle.book.specs.Grid.{Grid, amounts}
use Rattle.book.specs.Admissions.{Admission}
use Rattle.refusals.specs.First.{first_some, unless_refused}
use Rattle.refusals.specs.declared.refusal.Refusal.{Refusal}
use Rattle.refusals.proofs.Firsts.{alone, none_both, front_stops, front_passes, front_clear}
use Rattle.span_moves.specs.declared.change.Change.TheVariants.{Raising}
use Rattle.span_moves.specs.Spans.{Alike, spanned}
use Rattle.span_moves.specs.Moves.{span_refusal, span_after, share}
use Rattle.span_moves.proofs.Alike.{zero_alike}
use Rattle.span_moves.proofs.Shares.{raise_adds}
use Rattle.awards.specs.Accounts.{most_awards, most_earned}
use Rattle.awards.specs.Blocks.{first_of_block, last_of_block, count_of_block}
use Rattle.awards.specs.Sheets.{SheetView, enterable}
use Rattle.awards.specs.Awards.{overpriced, award_conditions, award_refusal, award_after}

module _ {Q R : Type 0} (m : Measure Q R) (held : Grid Q) (places : ℕ) (admission : ℕ → ℕ → Q → Admission) (directions quarters : ℕ) (sheet : SheetView) (provider block : ℕ) (prices : List ℕ) (quantity : Q) where
  abbrev conditions : Q → List (Option Refusal)
  conditions q = award_conditions m directions sheet.awards provider block q prices

  abbrev refusal : Grid Q → Q → Option Refusal
  refusal other q = award_refusal m other places admission directions quarters sheet.awards provider block q prices

  -- an award that is refused by itself, for all quantities of one amount
  pub refused_first : (r : Refusal) → Some r ≡ first_some (conditions quantity) → Alike m held quantity refusal (Some r)
  unfolding award_refusal
  refused_first r e other q f h = sym (front_stops (conditions q) _ r (rw (zero_alike m q quantity h) (sym e)))

-- a quantity is zero where its amount is none
pub zero_none : {Q R : Type 0} (m : Measure Q R) (q : Q) → (is_zero m q ≡ true → m.amount q ≡ m.none) × (m.amount q ≡ m.none → is_zero m q ≡ true)
zero_none m q = grind (arith, m.alike_same q m.nothing, m.same_alike q m.nothing, m.nothing_none)

-- quantities of one amount are refused alike by themselves
pub conditions_alike : {Q R : Type 0} (m : Measure Q R) (directions awards provider block : ℕ) (prices : List ℕ) (q r : Q) → m.amount r ≡ m.amount q → first_some (award_conditions m directions awards provider block r prices) ≡ first_some (award_conditions m directions awards provider block q prices)
conditions_alike m directions awards provider block prices q r e = rw (zero_alike m r q e) refl

module _ {Q R : Type 0} (m : Measure Q R) (held : Grid Q) (places : ℕ) (admission : ℕ → ℕ → Q → Admission) (directions quarters provider block : ℕ) (quantity : Q) (prices : List ℕ) where
  -- the span that an award raises
  abbrev raising : ℕ → ℕ → Option Refusal
  raising first last = span_refusal m held places admission Raising provider first last quantity

  abbrev whole : Option Refusal
  whole = raising (first_of_block quarters block) (last_of_block quarters block)

  module _ (awards : ℕ) where
    abbrev own : List (Option Refusal)
    own = award_conditions m directions awards provider block quantity prices

    abbrev Clear : Type 0
    Clear = first_some own ≡ None

    abbrev why : Option Refusal
    why = award_refusal m held places admission directions quarters awards provider block quantity prices

    -- what the conditions say together
    pub provider_bound : Clear → provider < 32
    provider_bound e = grind (arith, nat_tests, none_both)

    pub price_bounds : Clear → overpriced prices ≡ false
    price_bounds e = grind (arith, nat_tests, none_both)

    pub award_bound : Clear → awards < most_awards
    award_bound e = grind (arith, nat_tests, none_both)

    -- an award that is not refused is not refused by itself
    pub taken_clear : why ≡ None → Clear
    unfolding award_refusal
    taken_clear e = front_clear own (whole ∷ []) e

    -- an award that is not refused by itself
    module _ (clear : Clear) (first last : ℕ) (starts : first ≡ first_of_block quarters block) (ends : last ≡ last_of_block quarters block) where
      -- is refused as its span is
      pub refused_span : why ≡ raising first last
      unfolding award_refusal
      refused_span = rw (starts, ends) (front_passes own (whole ∷ []) clear ∙ alone whole)

      -- and changes what the span does
      pub raised_after : span_after m held places admission Raising provider first last quantity ≡ award_after m held places admission directions quarters awards provider block quantity prices
      unfolding span_after award_after
      raised_after = rw (refused_span, starts, ends) refl

      -- its block has at most 100 quarters if it is not refused at all
      pub count_bound : raising first last ≡ None → count_of_block quarters block ≤ 100
      unfolding span_refusal
      count_bound e = let l : last < 100 = grind (arith, nat_tests, none_both) in omega arith

    -- an award that is not refused adds the share of its block to every holding
    pub award_adds : why ≡ None → (x u : ℕ) → award_after m held places admission directions quarters awards provider block quantity prices x u ≡ m.plus (share m provider (first_of_block quarters block) (last_of_block quarters block) (m.amount quantity) x u) (amounts m held x u)
    unfolding award_after
    award_adds e x u =
        let first = first_of_block quarters block in
        let last = last_of_block quarters block in
        ap (λ o. unless_refused o (spanned m held Raising provider quantity first (last + 1)) (amounts m held) x u) e
        ∙ raise_adds m held places admission provider first last quantity (sym (refused_span (taken_clear e) first last refl refl) ∙ e) x u

-- an award within its bounds can be entered
pub can_enter : (provider earned : ℕ) (sheet : SheetView) → provider < 32 → sheet.awards < most_awards → earned ≤ most_earned → enterable provider earned sheet ≡ true
can_enter provider earned sheet h k l = grind (arith, nat_tests)
