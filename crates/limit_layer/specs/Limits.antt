-- Limits of providers, and what they admit.
use Rattle.std.specs.Prelude.{ℕ, zero, suc, ◌+◌, min, cond, ◌&&◌, Some, None, Option, ◌==◌, nat_le, nat_lt, slice_index_or}
use Rattle.quantity.specs.declared.direction.Direction.{Direction}
use Rattle.quantity.specs.declared.direction.Direction.TheVariants.{Up, Down}
use Rattle.book.specs.Admissions.{Admission}
use Rattle.book.specs.declared.answers.Cause.TheVariants.{Limit}
use Rattle.refusals.specs.declared.refusal.Refusal.{Refusal}
use Rattle.refusals.specs.declared.refusal.Refusal.TheVariants.{NoSuchProvider}
use Rattle.quantity.specs.declared.up_down.UpDown.{UpDown}
use Rattle.limit_layer.specs.declared.table.LimitTable.{LimitTable}

-- the limit in the direction of a number
abbrev pub limit_in : UpDown ℕ → ℕ → ℕ
limit_in limits zero = limits.up
limit_in limits (suc zero) = limits.down
limit_in limits (suc (suc d)) = 0

abbrev pub no_limits : UpDown ℕ
no_limits = record { up = 0; down = 0 }

-- the limit of a provider in the direction of a number: zero for what there is not
abbrev pub limit_at : LimitTable → ℕ → ℕ → ℕ
limit_at table p = limit_in (slice_index_or table.limits p no_limits)

abbrev pub set_refusal : ℕ → Option Refusal
set_refusal p = cond (nat_lt p 32) None (Some NoSuchProvider)

-- the limits after one is set
abbrev pub after_set : (ℕ → ℕ → ℕ) → ℕ → ℕ → ℕ → ℕ → ℕ → ℕ
after_set limits provider direction tenths p d = cond (nat_lt provider 32 && (p == provider && d == direction)) tenths (limits p d)

-- whether tenths in a direction are within a limit
abbrev pub within_one : ℕ → Direction → (limit tenths : ℕ) → Admission
within_one layer direction limit tenths = cond (nat_le tenths limit) None (Some (Limit layer direction))

-- the first cause of two: what the book below does not admit, and then what the layer does not
abbrev pub over : Admission → Admission → Admission
over None own = own
over (Some cause) own = Some cause

-- whether tenths up and down are within limits: if not, up before down
abbrev pub within : (layer upLimit downLimit up down : ℕ) → Admission
within layer upLimit downLimit up down = over (within_one layer Up upLimit up) (within_one layer Down downLimit down)

-- one more than the layer below, at most 255
abbrev pub next_layer : ℕ → ℕ
next_layer n = min (n + 1) 255

-- what a layer over a book admits: q has these tenths up and down
unfoldable pub limited : {Q : Type 0} → LimitTable → ℕ → (ℕ → ℕ → Q → Admission) → (Q → ℕ → ℕ) → ℕ → ℕ → Q → Admission
limited table layer below tenths p t q = over (below p t q) (within layer (limit_at table p 0) (limit_at table p 1) (tenths q 0) (tenths q 1))
