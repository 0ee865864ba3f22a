-- What a gate makes of the requests and of the holdings.
use Rattle.std.specs.Prelude.{◌≡◌, ℕ, ◌+◌, Bool, true, false, cond, List, [], ◌∷◌, take, Some, None, Option}
use Rattle.std.specs.List.{slice_get}
use Rattle.quantity.specs.Measure.{Measure}
use Rattle.book.specs.Grid.{Grid, amounts}
use Rattle.book.specs.Admissions.{Admission}
use Rattle.refusals.specs.declared.refusal.Refusal.{Refusal}
use Rattle.refusals.specs.First.{unless_refused}
use Rattle.span_moves.specs.Moves.{move_refusal, moved_holdings}
use Rattle.requests.specs.declared.request.Status.{Status}
use Rattle.requests.specs.declared.request.Status.TheVariants.{WaitingForCounterpart, BalanceOk, BalanceError, Confirmed, Rejected, Waiting, Accepted, Declined, Lapsed}
use Rattle.requests.specs.declared.request.Request.{Request}
use Rattle.gates.specs.declared.gate.Gate.{Gate}
use Rattle.gates.specs.declared.gate.Gate.TheVariants.{First, Second}

-- a fact of all holdings of the same amounts
abbrev pub AlikeOver : {Q R : Type 0} → Measure Q R → Grid Q → (Grid Q → Type 0) → Type 0
AlikeOver {Q = Q} m held Fact = (other : Grid Q) → amounts m other ≡ amounts m held → Fact other

-- the quantity that passes: what the giver announced last
abbrev pub passing : {Q R : Type 0} → Measure Q R → Option R → Q
passing m None = m.nothing
passing m (Some row) = m.told row

-- a request with another status
abbrev pub given_status : {R : Type 0} → Request R → Status → Request R
given_status r status = record { passage = r.passage; giving = r.giving; taking = r.taking; status = status }

-- the status of a move that was made, or that a cause kept from being made
abbrev pub outcome : Option Refusal → Status
outcome None = Confirmed
outcome (Some cause) = Rejected (Some cause)

-- whether both sides announced equal quantities
abbrev pub has_balance : Status → Bool
has_balance WaitingForCounterpart = false
has_balance BalanceOk = true
has_balance BalanceError = false
has_balance Confirmed = false
has_balance (Rejected why) = false
has_balance Waiting = false
has_balance Accepted = false
has_balance Declined = false
has_balance Lapsed = false

-- the second gate rejects what does not balance, without a cause
abbrev pub unbalanced : Gate → Status → Status
unbalanced First status = status
unbalanced Second status = Rejected None

-- the status after a gate of a request that does not move
abbrev pub closed : Gate → Status → Status
closed gate WaitingForCounterpart = unbalanced gate WaitingForCounterpart
closed gate BalanceOk = BalanceOk
closed gate BalanceError = unbalanced gate BalanceError
closed gate Confirmed = Confirmed
closed gate (Rejected why) = Rejected why
closed gate Waiting = Waiting
closed gate Accepted = Accepted
closed gate Declined = Declined
closed gate Lapsed = Lapsed

-- the status after a gate, by the cause that keeps a balanced request from moving
abbrev pub judged : Gate → Option Refusal → Status → Status
judged gate why status = cond (has_balance status) (outcome why) (closed gate status)

module _ {Q R : Type 0} (m : Measure Q R) (places : ℕ) (admission : ℕ → ℕ → Q → Admission) where
  -- why the move of a request cannot be made over these holdings, if it cannot
  abbrev pub cause : Grid Q → Request R → Option Refusal
  cause held r = move_refusal m held places admission r.passage.giver r.passage.taker r.passage.first r.passage.last (passing m r.giving)

  -- one request after the gate, over the holdings that its predecessors left
  abbrev pub settled : Gate → Grid Q → Request R → Request R
  settled gate held r = given_status r (judged gate (cause held r) r.status)

  -- the holdings after the move of a request, if it can be made
  abbrev pub moved_on : Grid Q → Request R → Grid Q
  moved_on held r = unless_refused (cause held r) (moved_holdings m held r.passage.giver r.passage.taker (passing m r.giving) r.passage.first (r.passage.last + 1)) held

  -- the holdings after a request: only a balanced one moves
  abbrev pub passed_on : Grid Q → Request R → Grid Q
  passed_on held r = cond (has_balance r.status) (moved_on held r) held

  -- the holdings after the request at a place, if there is one
  abbrev pub passed_at : Grid Q → Option (Request R) → Grid Q
  passed_at held None = held
  passed_at held (Some r) = passed_on held r

  -- the holdings after the moves of a list, one by one
  unfoldable pub after_moves : Grid Q → List (Request R) → Grid Q
  after_moves held [] = held
  after_moves held (r ∷ rs) = after_moves (passed_on held r) rs

  -- the requests after a gate, in list order
  unfoldable pub gated : Gate → Grid Q → List (Request R) → List (Request R)
  gated gate held [] = []
  gated gate held (r ∷ rs) = settled gate held r ∷ gated gate (passed_on held r) rs

-- What a gate does, request by request, in its own words.
module _ {Q R : Type 0} (m : Measure Q R) (places : ℕ) (admission : ℕ → ℕ → Q → Admission) where
  -- a balanced request is confirmed exactly if its move has no cause, and else rejected with that cause;
  -- every other one keeps its status, or is rejected without a cause at the second gate if it is unresolved
  abbrev pub Decided : Gate → Option Refusal → Status → Status → Type 0
  Decided gate why BalanceOk new = (new ≡ Confirmed → why ≡ None) × (why ≡ None → new ≡ Confirmed) × ((c : Refusal) → why ≡ Some c → new ≡ Rejected (Some c))
  Decided First why WaitingForCounterpart new = new ≡ WaitingForCounterpart
  Decided Second why WaitingForCounterpart new = new ≡ Rejected None
  Decided First why BalanceError new = new ≡ BalanceError
  Decided Second why BalanceError new = new ≡ Rejected None
  Decided gate why Confirmed new = new ≡ Confirmed
  Decided gate why (Rejected c) new = new ≡ Rejected c
  Decided gate why Waiting new = new ≡ Waiting
  Decided gate why Accepted new = new ≡ Accepted
  Decided gate why Declined new = new ≡ Declined
  Decided gate why Lapsed new = new ≡ Lapsed

  -- each request is decided by the cause of its move after the moves of those before it, and nothing else of it changes
  abbrev pub Judged : Gate → Grid Q → List (Request R) → List (Request R) → Type 0
  Judged gate held before after =
      (i : ℕ) (r : Request R) → slice_get before i ≡ Some r →
      (status : Status) × (slice_get after i ≡ Some (given_status r status)) × Decided gate (cause m places admission (after_moves m places admission held (take i before)) r) r.status status
