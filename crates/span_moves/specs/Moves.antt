-- What raising, lowering and moving a span answer and change: all or nothing.
use Rattle.std.specs.Prelude.{◌≡◌, ℕ, ◌+◌, ◌-◌, cond, ◌&&◌, [], ◌∷◌, Some, None, Option, ◌==◌, nat_le, nat_lt}
use Rattle.quantity.specs.Measure.{Measure}
use Rattle.book.specs.Grid.{Grid, amounts, taken}
use Rattle.book.specs.Admissions.{Admission}
use Rattle.span_moves.specs.declared.change.Change.{Change}
use Rattle.span_moves.specs.declared.change.Change.TheVariants.{Lowering, Raising}
use Rattle.refusals.specs.declared.refusal.Refusal.{Refusal}
use Rattle.refusals.specs.Checks.{no_provider, no_span, one_provider}
use Rattle.refusals.specs.First.{first_some, unless_refused}
use Rattle.span_moves.specs.Spans.{first_of, crowding, count, becomes, unfit, unadmitted, spanned, left_after}

module _ {Q R : Type 0} (m : Measure Q R) (held : Grid Q) where
  -- the giver has its remainders and the taker its sums in the quarters from lo on and before hi
  unfoldable pub moved_holdings : ℕ → ℕ → Q → ℕ → ℕ → Grid Q
  moved_holdings giver taker q lo hi =
      λ x u.
      cond (x == giver && (nat_le lo u && nat_lt u hi)) (becomes m held Lowering giver q u) (cond (x == taker && (nat_le lo u && nat_lt u hi)) (becomes m held Raising taker q u) (held x u))

  unfoldable pub moved : ℕ → ℕ → Q → ℕ → ℕ → Grid m.Amount
  moved giver taker q lo hi = amounts m (moved_holdings giver taker q lo hi)

module _ {Q R : Type 0} (m : Measure Q R) (held : Grid Q) (places : ℕ) (admission : ℕ → ℕ → Q → Admission) where
  -- only what is raised has to be admitted
  abbrev pub unwelcome : Change → ℕ → Q → ℕ → Option Refusal
  unwelcome Lowering p q t = None
  unwelcome Raising p q t = unadmitted m held admission p q t

  -- the places that are free at first
  abbrev pub free_places : Option ℕ
  free_places = Some (places - taken m held)

  -- why a change of a span is refused by what is held
  abbrev pub change_checks : Change → ℕ → ℕ → ℕ → Q → Option Refusal
  change_checks change p first last q =
      first_some
      (first_of (unfit m held change p q) first (count first last)
      ∷ (first_of (unwelcome change p q) first (count first last)
      ∷ (crowding (left_after m held change p q free_places first (count first last)) ∷ []))
      )

  -- why a span is not raised or lowered, if it is not: the first of these
  unfoldable pub span_refusal : Change → ℕ → ℕ → ℕ → Q → Option Refusal
  span_refusal change p first last q =
      first_some
      (no_provider p
      ∷ (no_span first last
      ∷ (first_of (unfit m held change p q) first (count first last)
      ∷ (first_of (unwelcome change p q) first (count first last)
      ∷ (crowding (left_after m held change p q free_places first (count first last)) ∷ []))))
      )

  -- the amounts after a span is raised or lowered
  unfoldable pub span_after : Change → ℕ → ℕ → ℕ → Q → Grid m.Amount
  span_after change p first last q = unless_refused (span_refusal change p first last q) (spanned m held change p q first (last + 1)) (amounts m held)

  -- why a move of a span is refused by what is held
  abbrev pub move_checks : ℕ → ℕ → ℕ → ℕ → Q → Option Refusal
  move_checks giver taker first last q =
      first_some
      (first_of (unfit m held Lowering giver q) first (count first last)
      ∷ (first_of (unfit m held Raising taker q) first (count first last)
      ∷ (first_of (unadmitted m held admission taker q) first (count first last)
      ∷ (crowding (left_after m held Raising taker q (left_after m held Lowering giver q free_places first (count first last)) first (count first last)) ∷ [])))
      )

  -- why a span is not moved, if it is not: the first of these; all lowerings come before all raisings
  unfoldable pub move_refusal : ℕ → ℕ → ℕ → ℕ → Q → Option Refusal
  move_refusal giver taker first last q =
      first_some
      (no_provider giver
      ∷ (no_provider taker
      ∷ (no_span first last
      ∷ (one_provider giver taker
      ∷ (first_of (unfit m held Lowering giver q) first (count first last)
      ∷ (first_of (unfit m held Raising taker q) first (count first last)
      ∷ (first_of (unadmitted m held admission taker q) first (count first last)
      ∷ (crowding (left_after m held Raising taker q (left_after m held Lowering giver q free_places first (count first last)) first (count first last)) ∷ [])))))))
      )

  -- the amounts after a span is moved
  unfoldable pub move_after : ℕ → ℕ → ℕ → ℕ → Q → Grid m.Amount
  move_after giver taker first last q = unless_refused (move_refusal giver taker first last q) (moved m held giver taker q first (last + 1)) (amounts m held)

-- the part of a that passes a provider in a quarter of the span, none elsewhere
abbrev pub share : {Q R : Type 0} (m : Measure Q R) → ℕ → ℕ → ℕ → m.Amount → ℕ → ℕ → m.Amount
share m p first last a x u = cond (x == p && (nat_le first u && nat_lt u (last + 1))) a m.none

-- what the giver lost the taker won, in each quarter of the span and nowhere else
abbrev pub Passed : {Q R : Type 0} (m : Measure Q R) (old new : Grid m.Amount) → ℕ → ℕ → ℕ → ℕ → m.Amount → Type 0
Passed m old new giver taker first last a = (x u : ℕ) → m.plus (share m giver first last a x u) (new x u) ≡ m.plus (share m taker first last a x u) (old x u)
