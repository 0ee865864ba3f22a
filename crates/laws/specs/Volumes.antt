-- What the calls of a day awarded, announced and earned, counted over its history: the calls with their answers, the newest first.
use Rattle.std.specs.Prelude.{ℕ, ◌+◌, Bool, true, false, cond, ◌&&◌, List, [], ◌∷◌, Some, None, Option, Ok, Err, ◌==◌}
use Rattle.quantity.specs.Measure.{Measure}
use Rattle.span_moves.specs.Moves.{share}
use Rattle.awards.specs.Blocks.{count_of_block, in_block}
use Rattle.awards.specs.Awards.{award_earns}
use Rattle.requests.specs.declared.request.Status.{Status}
use Rattle.requests.specs.declared.request.Status.TheVariants.{WaitingForCounterpart, BalanceOk, BalanceError, Confirmed, Rejected, Waiting, Accepted, Declined, Lapsed}
use Rattle.requests.specs.declared.request.Request.{Request}
use Rattle.requests.specs.declared.announcement.Announcement.{Announcement}
use Rattle.day_calls.specs.Calls.{LentDayCall}
use Rattle.day_calls.specs.declared.calls.DayCall.TheVariants.{Open, Award, Announce, Gate, Holding, Missing, Status as StatusCall}
use Rattle.day_calls.specs.declared.calls.Answer.TheVariants.{Opened, Awarded, Placed, GatePassed, Held, Lacking, Standing}
use Rattle.day_calls.specs.Answers.{Outcome}
use Rattle.laws.specs.Sums.{sum_of, sum_from}

-- a call with what it came to
pub record Event (Q : Type 0) : Type 0 where
  pub call : LentDayCall Q
  pub answer : Outcome Q

abbrev pub is_awarded : {Q : Type 0} → Outcome Q → Bool
is_awarded (Ok Opened) = false
is_awarded (Ok Awarded) = true
is_awarded (Ok (Placed place)) = false
is_awarded (Ok GatePassed) = false
is_awarded (Ok (Held q)) = false
is_awarded (Ok (Lacking x)) = false
is_awarded (Ok (Standing status)) = false
is_awarded (Err why) = false

-- whether the answer is that an announcement was taken at this place
abbrev pub is_placed : {Q : Type 0} → ℕ → Outcome Q → Bool
is_placed k (Ok Opened) = false
is_placed k (Ok Awarded) = false
is_placed k (Ok (Placed place)) = place == k
is_placed k (Ok GatePassed) = false
is_placed k (Ok (Held q)) = false
is_placed k (Ok (Lacking x)) = false
is_placed k (Ok (Standing status)) = false
is_placed k (Err why) = false

abbrev pub is_confirmed : Status → Bool
is_confirmed WaitingForCounterpart = false
is_confirmed BalanceOk = false
is_confirmed BalanceError = false
is_confirmed Confirmed = true
is_confirmed (Rejected why) = false
is_confirmed Waiting = false
is_confirmed Accepted = false
is_confirmed Declined = false
is_confirmed Lapsed = false

module _ {Q R : Type 0} (m : Measure Q R) (tenths : Q → ℕ → ℕ) (directions quarters : ℕ) where
  -- what a call, if it is an award, awards a provider in a quarter: its quantity in each quarter of its block
  abbrev pub award_of : ℕ → ℕ → LentDayCall Q → m.Amount
  award_of p t (Open new) = m.none
  award_of p t (Award a) = cond (p == a.provider && in_block quarters a.block t) (m.amount a.quantity) m.none
  award_of p t (Announce a) = m.none
  award_of p t (Gate minute) = m.none
  award_of p t (Holding x u) = m.none
  award_of p t (Missing x u) = m.none
  award_of p t (StatusCall place) = m.none

  -- awards are counted where they were taken
  abbrev pub award_of_call : ℕ → ℕ → Event Q → m.Amount
  award_of_call p t e = cond (is_awarded e.answer) (award_of p t e.call) m.none

  -- what a provider was awarded in a quarter
  abbrev pub awarded : ℕ → ℕ → List (Event Q) → m.Amount
  awarded p t h = sum_of m (award_of_call p t) h

  -- what a call, if it is an award, earns a provider
  abbrev pub earning_of : ℕ → LentDayCall Q → ℕ
  earning_of p (Open new) = 0
  earning_of p (Award a) = cond (p == a.provider) (award_earns (tenths a.quantity) a.prices.now directions (count_of_block quarters a.block)) 0
  earning_of p (Announce a) = 0
  earning_of p (Gate minute) = 0
  earning_of p (Holding x u) = 0
  earning_of p (Missing x u) = 0
  earning_of p (StatusCall place) = 0

  abbrev pub earning_by : ℕ → Event Q → ℕ
  earning_by p e = cond (is_awarded e.answer) (earning_of p e.call) 0

  -- what the awards earned a provider
  unfoldable pub earned : ℕ → List (Event Q) → ℕ
  earned p [] = 0
  earned p (e ∷ h) = earning_by p e + earned p h

-- the announcement of a call, if it is one
abbrev pub announcement_of : {Q : Type 0} → LentDayCall Q → Option (Announcement Q)
announcement_of (Open new) = None
announcement_of (Award a) = None
announcement_of (Announce a) = Some a
announcement_of (Gate minute) = None
announcement_of (Holding x u) = None
announcement_of (Missing x u) = None
announcement_of (StatusCall place) = None

-- what was announced last for the request at a place
unfoldable pub last_word : {Q : Type 0} → ℕ → List (Event Q) → Option (Announcement Q)
last_word k [] = None
last_word k (e ∷ h) = cond (is_placed k e.answer) (announcement_of e.call) (last_word k h)

module _ {Q R : Type 0} (m : Measure Q R) where
  -- what an announcement lets pass from its giver, or to its taker, in a quarter of its span
  abbrev pub from_giver : ℕ → ℕ → Option (Announcement Q) → m.Amount
  from_giver p t None = m.none
  from_giver p t (Some a) = share m a.passage.giver a.passage.first a.passage.last (m.amount a.quantity) p t

  abbrev pub to_taker : ℕ → ℕ → Option (Announcement Q) → m.Amount
  to_taker p t None = m.none
  to_taker p t (Some a) = share m a.passage.taker a.passage.first a.passage.last (m.amount a.quantity) p t

  -- what passed from a provider, and to it, in a quarter: over the requests that are Confirmed, by what was announced last
  abbrev pub sent_at : List (Event Q) → ℕ → ℕ → ℕ → Request R → m.Amount
  sent_at h p t k r = cond (is_confirmed r.status) (from_giver p t (last_word k h)) m.none

  abbrev pub received_at : List (Event Q) → ℕ → ℕ → ℕ → Request R → m.Amount
  received_at h p t k r = cond (is_confirmed r.status) (to_taker p t (last_word k h)) m.none

  abbrev pub sent : List (Event Q) → List (Request R) → ℕ → ℕ → m.Amount
  sent h requests p t = sum_from m (sent_at h p t) 0 requests

  abbrev pub received : List (Event Q) → List (Request R) → ℕ → ℕ → m.Amount
  received h requests p t = sum_from m (received_at h p t) 0 requests
