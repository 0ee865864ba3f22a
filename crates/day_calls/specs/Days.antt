-- What a day means, and what each call answers and makes of it.
use Rattle.std.specs.Prelude.{ℕ, List, [], ◌∷◌, Option}
use Rattle.std.specs.List.{slice_get}
use Rattle.quantity.specs.Measure.{Measure}
use Rattle.book.specs.Grid.{Grid, amounts}
use Rattle.book.specs.Calls.{held_at}
use Rattle.book.specs.Admissions.{Admission}
use Rattle.refusals.specs.declared.refusal.Refusal.{Refusal}
use Rattle.refusals.specs.First.{unless_refused}
use Rattle.requests.specs.declared.request.Request.{Request}
use Rattle.requests.specs.declared.finding.Joining.{Joining}
use Rattle.requests.specs.declared.finding.Joining.TheVariants.{Unresolved, NotBalanced}
use Rattle.requests.specs.Announcing.{announcement_place}
use Rattle.requests.specs.Numbers.{status_number}
use Rattle.std.specs.Borrow.{Bor}
use Rattle.awards.specs.declared.awarded.Award.{Award}
use Rattle.awards.specs.Sheets.{SheetView, view, blank_view}
use Rattle.awards.specs.Awards.{award_refusal, award_after, award_sheet}
use Rattle.gates.specs.declared.gate.Gate.{Gate}
use Rattle.gates.specs.declared.gate.Gate.TheVariants.{First, Second}
use Rattle.gates.specs.Gates.{after_moves, gated}
use Rattle.day.specs.declared.stages.Day.{Day}
use Rattle.day.specs.declared.opening.NewDay.{NewDay}
use Rattle.requests.specs.declared.announcement.Announcement.{Announcement}
use Rattle.day.specs.Announcing.{at_minute, announce_refusal, announced_list, announced_day}
use Rattle.day.specs.Opening.{opening_refusal, opened_day}
use Rattle.day.specs.Questions.{question_refusal, lacking, status_refusal, status_of}
use Rattle.day.specs.Gating.{gate_refusal}
use Rattle.day_calls.specs.Calls.{LentDayCall}
use Rattle.day_calls.specs.declared.calls.DayCall.TheVariants.{Open, Award as AwardCall, Announce, Gate as GateCall, Holding, Missing, Status}
use Rattle.day_calls.specs.declared.desk.Desk.{Desk}
use Rattle.day_calls.specs.declared.desk.Stage.{Stage}
use Rattle.day_calls.specs.declared.desk.Stage.TheVariants.{Unopened, Announcing as InAnnouncing, Reconciling as InReconciling, Intraday as InIntraday}
use Rattle.day_calls.specs.Answers.{Said, numbered, quantified, unless, not_in_stage}

-- by stages: before the opening, in the first stage, before a gate, once opened; else the last argument
abbrev pub if_unopened : {A : Type 0} → Stage → A → A → A
if_unopened Unopened new else = new
if_unopened (InAnnouncing s) new else = else
if_unopened (InReconciling s) new else = else
if_unopened (InIntraday s) new else = else

abbrev pub in_first : {A : Type 0} → Stage → (Day → A) → A → A
in_first Unopened f else = else
in_first (InAnnouncing s) f else = f s.day
in_first (InReconciling s) f else = else
in_first (InIntraday s) f else = else

abbrev pub before_gate : {A : Type 0} → Stage → (Gate → Day → A) → A → A
before_gate Unopened f else = else
before_gate (InAnnouncing s) f else = f First s.day
before_gate (InReconciling s) f else = f Second s.day
before_gate (InIntraday s) f else = else

abbrev pub once_opened : {A : Type 0} → Stage → (Day → A) → A → A
once_opened Unopened f else = else
once_opened (InAnnouncing s) f else = f s.day
once_opened (InReconciling s) f else = f s.day
once_opened (InIntraday s) f else = f s.day

-- in the first stage an announcement joins every unresolved request, in the second one that does not balance
abbrev pub joining_before : Gate → Joining
joining_before First = Unresolved
joining_before Second = NotBalanced

-- the same stage on a day that has taken another minute, and the stage after a gate
abbrev pub same_stage : Gate → Day → Stage
same_stage First day = InAnnouncing (record { day = day; stage = record {} })
same_stage Second day = InReconciling (record { day = day; stage = record {} })

abbrev pub next_stage : Gate → Day → Stage
next_stage First day = InReconciling (record { day = day; stage = record {} })
next_stage Second day = InIntraday (record { day = day; stage = record {} })

-- a day: its stage, obligations with places and admission, bids, requests with the places lent, and sheet
pub record DayState (Q R : Type 0) : Type 0 where
  pub stage : Stage
  pub held : Grid Q
  pub places : ℕ
  pub admission : ℕ → ℕ → Q → Admission
  pub bids : Grid Q
  pub requests : List (Request R)
  pub room : ℕ
  pub sheet : SheetView

-- what the parts of a desk mean, by what its books and its list tell
abbrev pub state_of : {O B L Q R : Type 0} → (O → Grid Q) → (O → ℕ) → (O → ℕ → ℕ → Q → Admission) → (B → Grid Q) → (L → List (Request R)) → (L → ℕ) → Desk O B L → DayState Q R
state_of held places admission bids contents room d = record { stage = d.stage; held = held d.obligations; places = places d.obligations; admission = admission d.obligations; bids = bids d.bids; requests = contents d.requests; room = room d.requests; sheet = view d.sheet }

module _ {Q R : Type 0} (m : Measure Q R) (tenths : Q → ℕ → ℕ) (directions : ℕ) (s : DayState Q R) where
  -- the refusals of the calls that can change a day
  abbrev pub open_refused : NewDay → Option Refusal
  open_refused new = opening_refusal m new.number new.quarters s.held s.bids s.requests

  abbrev pub award_refused : Day → Award Q (Bor (List ℕ)) → Option Refusal
  award_refused day a = award_refusal m s.held s.places s.admission directions day.quarters s.sheet.awards a.provider a.block a.quantity a.prices.now

  abbrev pub announce_refused : Gate → Day → Announcement Q → Option Refusal
  announce_refused gate day a = announce_refusal m day (joining_before gate) a s.requests s.room

  -- what is missing in a direction
  abbrev pub missing_tenths_in : ℕ → ℕ → ℕ → ℕ
  missing_tenths_in p t d = lacking (s.sheet.exempt p t) (tenths (held_at m s.held p t) d) (tenths (held_at m s.bids p t) d)

  -- what a call answers
  unfoldable pub answered : LentDayCall Q → Said Q
  answered (Open new) = if_unopened s.stage (unless (open_refused new) (numbered (0 ∷ (1 ∷ [])))) not_in_stage
  answered (AwardCall a) = in_first s.stage (λ day. unless (award_refused day a) (numbered (0 ∷ (2 ∷ [])))) not_in_stage
  answered (Announce a) =
      before_gate s.stage (λ gate day. unless (announce_refused gate day a) (numbered (0 ∷ (3 ∷ (announcement_place (joining_before gate) s.requests a.passage ∷ []))))) not_in_stage
  answered (GateCall minute) = before_gate s.stage (λ gate day. unless (gate_refusal gate day minute) (numbered (0 ∷ (4 ∷ [])))) not_in_stage
  answered (Holding p t) = once_opened s.stage (λ day. unless (question_refusal day p t) (quantified (0 ∷ (5 ∷ [])) (held_at m s.held p t))) not_in_stage
  answered (Missing p t) = once_opened s.stage (λ day. unless (question_refusal day p t) (numbered (0 ∷ (6 ∷ (missing_tenths_in p t 0 ∷ (missing_tenths_in p t 1 ∷ [])))))) not_in_stage
  answered (Status place) = once_opened s.stage (λ day. unless (status_refusal (slice_get s.requests place)) (numbered (0 ∷ (7 ∷ status_number (status_of (slice_get s.requests place)))))) not_in_stage

  -- the stage after a call
  unfoldable pub stage_after : LentDayCall Q → Stage
  stage_after (Open new) = if_unopened s.stage (unless_refused (open_refused new) (same_stage First (opened_day new.number new.quarters)) s.stage) s.stage
  stage_after (AwardCall a) = s.stage
  stage_after (Announce a) = before_gate s.stage (λ gate day. same_stage gate (announced_day day a (announce_refused gate day a))) s.stage
  stage_after (GateCall minute) = before_gate s.stage (λ gate day. unless_refused (gate_refusal gate day minute) (next_stage gate (at_minute day minute)) s.stage) s.stage
  stage_after (Holding p t) = s.stage
  stage_after (Missing p t) = s.stage
  stage_after (Status place) = s.stage

  -- the amounts of the obligations after a call
  unfoldable pub held_after : LentDayCall Q → Grid m.Amount
  held_after (Open new) = amounts m s.held
  held_after (AwardCall a) =
      in_first s.stage (λ day. award_after m s.held s.places s.admission directions day.quarters s.sheet.awards a.provider a.block a.quantity a.prices.now) (amounts m s.held)
  held_after (Announce a) = amounts m s.held
  held_after (GateCall minute) = before_gate s.stage (λ gate day. unless_refused (gate_refusal gate day minute) (amounts m (after_moves m s.places s.admission s.held s.requests)) (amounts m s.held)) (amounts m s.held)
  held_after (Holding p t) = amounts m s.held
  held_after (Missing p t) = amounts m s.held
  held_after (Status place) = amounts m s.held

  -- the requests after a call
  unfoldable pub requests_after : LentDayCall Q → List (Request R)
  requests_after (Open new) = s.requests
  requests_after (AwardCall a) = s.requests
  requests_after (Announce a) = before_gate s.stage (λ gate day. announced_list m day (joining_before gate) a s.requests s.room) s.requests
  requests_after (GateCall minute) = before_gate s.stage (λ gate day. unless_refused (gate_refusal gate day minute) (gated m s.places s.admission gate s.held s.requests) s.requests) s.requests
  requests_after (Holding p t) = s.requests
  requests_after (Missing p t) = s.requests
  requests_after (Status place) = s.requests

  -- the sheet after a call
  unfoldable pub sheet_after : LentDayCall Q → SheetView
  sheet_after (Open new) = if_unopened s.stage (unless_refused (open_refused new) blank_view s.sheet) s.sheet
  sheet_after (AwardCall a) =
      in_first s.stage (λ day. award_sheet m s.held s.places s.admission tenths directions day.quarters a.provider a.block a.quantity a.prices.now s.sheet) s.sheet
  sheet_after (Announce a) = s.sheet
  sheet_after (GateCall minute) = s.sheet
  sheet_after (Holding p t) = s.sheet
  sheet_after (Missing p t) = s.sheet
  sheet_after (Status place) = s.sheet
