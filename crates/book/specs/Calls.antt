-- What the calls of a book answer and change, by its holdings, its places and what it admits.
use Rattle.std.specs.Prelude.{ℕ, Bool, true, false, cond, not, ◌&&◌, Some, None, Option, nat_le}
use Rattle.std.specs.Option.{unwrap_or}
use Rattle.quantity.specs.Measure.{Measure, is_zero}
use Rattle.book.specs.Grid.{Grid, in_range, put, amounts, taken}
use Rattle.book.specs.Admissions.{Admission}
use Rattle.book.specs.declared.answers.BookRefusal.{BookRefusal}
use Rattle.book.specs.declared.answers.BookRefusal.TheVariants.{OutsideRange, NoRemainder, SumDoesNotFit, NotAdmitted, NoFreePlace}

-- what is told of a holding: zero outside the range
abbrev pub held_at : {Q R : Type 0} → Measure Q R → Grid Q → ℕ → ℕ → Q
held_at m held p t = cond (in_range p t) (held p t) m.nothing

-- what is told of a quantity: it is admitted outside the range
abbrev pub admitted_at : {Q : Type 0} → (ℕ → ℕ → Q → Admission) → ℕ → ℕ → Q → Admission
admitted_at admission p t q = cond (in_range p t) (admission p t q) None

-- the refusal of what is not admitted, or the next one
abbrev pub barred : Admission → Option BookRefusal → Option BookRefusal
barred None next = next
barred (Some cause) next = Some (NotAdmitted cause)

-- the new value where nothing is refused, else the old one
abbrev pub unless : {A : Type 0} → Option BookRefusal → A → A → A
unless None new old = new
unless (Some refusal) new old = old

-- a book that admits every quantity
abbrev pub everything : {Q : Type 0} → ℕ → ℕ → Q → Admission
everything p t q = None

-- the amounts after a change of one holding to what the quantity's call answered, unless it is refused
abbrev pub changed : {Q R : Type 0} (m : Measure Q R) → Grid Q → ℕ → ℕ → Option BookRefusal → Option Q → Grid m.Amount
changed m held p t refusal new = unless refusal (put (amounts m held) p t (m.amount (unwrap_or new (held p t)))) (amounts m held)

module _ {Q R : Type 0} (m : Measure Q R) (held : Grid Q) (places : ℕ) where
  -- a zero holding would become q, which is not zero, while all places are taken
  abbrev pub full : ℕ → ℕ → Q → Bool
  full p t q = is_zero m (held p t) && (not (is_zero m q) && nat_le places (taken m held))

  abbrev pub crowded : Bool → Option BookRefusal
  crowded true = Some NoFreePlace
  crowded false = None

  -- why a holding is not replaced by what the quantity's call answered, if it is not:
  -- it answered nothing, the new holding is not admitted, there is no free place
  abbrev pub change_refusal : BookRefusal → (Q → Admission) → ℕ → ℕ → Option Q → Option BookRefusal
  change_refusal refusal admits p t None = Some refusal
  change_refusal refusal admits p t (Some q) = barred (admits q) (crowded (full p t q))

  -- why a raise is refused, if it is
  unfoldable pub raise_refusal : (ℕ → ℕ → Q → Admission) → ℕ → ℕ → Q → Option BookRefusal
  raise_refusal admission p t q = cond (in_range p t) (change_refusal SumDoesNotFit (admission p t) p t (m.joined (held p t) q)) (Some OutsideRange)

  -- why a lowering is refused, if it is
  unfoldable pub lower_refusal : ℕ → ℕ → Q → Option BookRefusal
  lower_refusal p t q = cond (in_range p t) (change_refusal NoRemainder (everything p t) p t (m.remaining (held p t) q)) (Some OutsideRange)

  -- the amounts after a raise: one holding is its sum with q
  unfoldable pub raised : (ℕ → ℕ → Q → Admission) → ℕ → ℕ → Q → Grid m.Amount
  raised admission p t q = unless (raise_refusal admission p t q) (put (amounts m held) p t (m.plus (m.amount (held p t)) (m.amount q))) (amounts m held)

  -- the amounts after a lowering: one holding is its remainder after q
  unfoldable pub lowered : ℕ → ℕ → Q → Grid m.Amount
  lowered p t q = changed m held p t (lower_refusal p t q) (m.remaining (held p t) q)
