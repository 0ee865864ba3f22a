-- What changes of a span of quarters answer and change.
use Rattle.std.specs.Prelude.{◌≡◌, ℕ, zero, suc, ◌+◌, ◌-◌, Bool, true, false, cond, ◌&&◌, [], ◌∷◌, Some, None, Option, ◌==◌, nat_le, nat_lt}
use Rattle.std.specs.Option.{unwrap_or}
use Rattle.quantity.specs.Measure.{Measure, is_zero}
use Rattle.book.specs.Grid.{Grid, amounts}
use Rattle.book.specs.Admissions.{Admission}
use Rattle.span_moves.specs.declared.change.Change.{Change}
use Rattle.span_moves.specs.declared.change.Change.TheVariants.{Lowering, Raising}
use Rattle.refusals.specs.First.{first_some}
use Rattle.refusals.specs.declared.refusal.Refusal.{Refusal}
use Rattle.refusals.specs.declared.refusal.Refusal.TheVariants.{NoRemainder, SumDoesNotFit, NotAdmitted, NoFreePlace}

-- what a holding becomes: its remainder or its sum
abbrev pub next : {Q R : Type 0} → Measure Q R → Change → Q → Q → Option Q
next m Lowering held q = m.remaining held q
next m Raising held q = m.joined held q

abbrev pub misfit : Change → ℕ → ℕ → Refusal
misfit Lowering p t = NoRemainder p t
misfit Raising p t = SumDoesNotFit p t

-- the first refusal among n quarters from lo on
unfoldable pub first_of : (ℕ → Option Refusal) → ℕ → ℕ → Option Refusal
first_of f lo zero = None
first_of f lo (suc n) = first_some (f lo ∷ (first_of f (lo + 1) n ∷ []))

-- how many places are free after a holding that was zero or not is zero or not; none where a place is wanting
abbrev pub step_left : (was will : Bool) → ℕ → Option ℕ
step_left true true n = Some n
step_left true false zero = None
step_left true false (suc n) = Some n
step_left false true n = Some (suc n)
step_left false false n = Some n

abbrev pub then_left : (was will : Bool) → Option ℕ → Option ℕ
then_left was will None = None
then_left was will (Some n) = step_left was will n

-- how many places are free after n quarters from lo on, step by step
unfoldable pub left : (was will : ℕ → Bool) → Option ℕ → ℕ → ℕ → Option ℕ
left was will free lo zero = free
left was will free lo (suc n) = then_left (was (lo + n)) (will (lo + n)) (left was will free lo n)

abbrev pub crowding : Option ℕ → Option Refusal
crowding None = Some NoFreePlace
crowding (Some n) = None

-- how many quarters a span has
abbrev pub count : ℕ → ℕ → ℕ
count first last = last + 1 - first

-- a refusal where the quantity's call answered nothing
abbrev pub unless_some : {Q : Type 0} → Refusal → Option Q → Option Refusal
unless_some refusal None = Some refusal
unless_some refusal (Some c) = None

abbrev pub barred_at : ℕ → ℕ → Admission → Option Refusal
barred_at p t None = None
barred_at p t (Some cause) = Some (NotAdmitted p t cause)

-- what is asked of a book before a change: only what is raised has to be admitted
abbrev pub asked : {Q : Type 0} → (ℕ → ℕ → Q → Admission) → Change → ℕ → ℕ → Q → Admission
asked admission Lowering p t q = None
asked admission Raising p t q = admission p t q

-- the refusal of a sum that is not admitted
abbrev pub barred_sum : {Q : Type 0} → (Q → Admission) → ℕ → ℕ → Option Q → Option Refusal
barred_sum admits p t None = None
barred_sum admits p t (Some s) = barred_at p t (admits s)

-- the answer is what is defined for all holdings and quantities of the same amounts
abbrev pub Alike : {Q R : Type 0} → Measure Q R → Grid Q → Q → (Grid Q → Q → Option Refusal) → Option Refusal → Type 0
Alike {Q = Q} m held q refusal answer = (other : Grid Q) (r : Q) → amounts m other ≡ amounts m held → m.amount r ≡ m.amount q → answer ≡ refusal other r

module _ {Q R : Type 0} (m : Measure Q R) (held : Grid Q) where
  -- what the holding of p in t becomes, or stays
  abbrev pub becomes : Change → ℕ → Q → ℕ → Q
  becomes change p q t = unwrap_or (next m change (held p t) q) (held p t)

  -- why the holding of p in t does not fit the change
  abbrev pub unfit : Change → ℕ → Q → ℕ → Option Refusal
  unfit change p q t = unless_some (misfit change p t) (next m change (held p t) q)

  -- why the holding of p in t may not be raised
  abbrev pub unadmitted : (ℕ → ℕ → Q → Admission) → ℕ → Q → ℕ → Option Refusal
  unadmitted admission p q t = barred_sum (admission p t) p t (m.joined (held p t) q)

  -- the amounts with the change in the quarters from lo on and before hi
  unfoldable pub spanned : Change → ℕ → Q → ℕ → ℕ → Grid m.Amount
  spanned change p q lo hi = λ x u. cond (x == p && (nat_le lo u && nat_lt u hi)) (m.amount (becomes change p q u)) (m.amount (held x u))

  -- how many places are free after the change, step by step
  abbrev pub left_after : Change → ℕ → Q → Option ℕ → ℕ → ℕ → Option ℕ
  left_after change p q free lo n = left (λ t. is_zero m (held p t)) (λ t. is_zero m (becomes change p q t)) free lo n
