-- When every holding of a span can be changed.
use Rattle.std.specs.Prelude.{◌≡◌, ℕ, ◌-◌, ◌≤◌, true, is_some, Some, None}
use Rattle.quantity.specs.Measure.{Measure}
use Rattle.book.specs.Grid.{Grid, taken}
use Rattle.book.specs.Calls.{raised, lowered}
use Rattle.book.specs.Admissions.{Admission}
use Rattle.span_moves.specs.declared.change.Change.{Change}
use Rattle.span_moves.specs.declared.change.Change.TheVariants.{Lowering, Raising}
use Rattle.span_moves.specs.Spans.{next, barred_sum, left_after, count}

module _ {Q R : Type 0} (m : Measure Q R) (held : Grid Q) (places : ℕ) (admission : ℕ → ℕ → Q → Admission) where
  -- the amounts after the change of one holding
  abbrev pub changed_one : Change → ℕ → ℕ → Q → Grid m.Amount
  changed_one Lowering p t q = lowered m held places p t q
  changed_one Raising p t q = raised m held places admission p t q

  -- every holding of this amount may be raised: nothing is asked of a lowering
  abbrev pub Welcome : Change → ℕ → Q → ℕ → Type 0
  Welcome Lowering p q t = Unit {0}
  Welcome Raising p q t = (a : Q) → m.amount a ≡ m.amount (held p t) → barred_sum (admission p t) p t (m.joined a q) ≡ None

  -- every holding of the span can be changed, and finds its place
  pub record Ready (change : Change) (p first last : ℕ) (q : Q) : Type 0 where
    pub fits : (t : ℕ) → first ≤ t → t ≤ last → is_some (next m change (held p t) q) ≡ true
    pub welcome : (t : ℕ) → first ≤ t → t ≤ last → Welcome change p q t
    pub bound : taken m held ≤ places
    pub room : is_some (left_after m held change p q (Some (places - taken m held)) first (count first last)) ≡ true

  -- the giver's holdings can be lowered, and then the taker's raised
  pub record ReadyToMove (giver taker first last : ℕ) (q : Q) : Type 0 where
    pub gives : Ready Lowering giver first last q
    pub fits : (t : ℕ) → first ≤ t → t ≤ last → is_some (next m Raising (held taker t) q) ≡ true
    pub welcome : (t : ℕ) → first ≤ t → t ≤ last → Welcome Raising taker q t
    pub room : is_some (left_after m held Raising taker q (left_after m held Lowering giver q (Some (places - taken m held)) first (count first last)) first (count first last)) ≡ true
