-- The law of volumes and earnings, over every history of calls and answers, and what makes it last from call to call.
use Rattle.std.specs.Prelude.{◌≡◌, ℕ, ◌<◌, Bool, true, false, cond, List, [], ◌∷◌, Some, None, Option, ◌==◌}
use Rattle.std.specs.List.{slice_get}
use Rattle.quantity.specs.Measure.{Measure}
use Rattle.book.specs.Grid.{amounts}
use Rattle.requests.specs.declared.request.Status.{Status}
use Rattle.requests.specs.declared.request.Status.TheVariants.{WaitingForCounterpart, BalanceOk, BalanceError, Confirmed, Rejected, Waiting, Accepted, Declined, Lapsed}
use Rattle.requests.specs.declared.request.Request.{Request}
use Rattle.gates.specs.Gates.{passing}
use Rattle.day.specs.declared.stages.Day.{Day}
use Rattle.requests.specs.declared.announcement.Announcement.{Announcement}
use Rattle.day.specs.Opening.{day_length}
use Rattle.day_calls.specs.Calls.{LentDayCall}
use Rattle.day_calls.specs.declared.desk.Stage.{Stage}
use Rattle.day_calls.specs.declared.desk.Stage.TheVariants.{Unopened, Announcing as InAnnouncing, Reconciling as InReconciling, Intraday as InIntraday}
use Rattle.day_calls.specs.Answers.{Outcome, said}
use Rattle.day_calls.specs.Days.{DayState, answered, stage_after, held_after, requests_after, sheet_after}
use Rattle.laws.specs.Sums.{sum_below}
use Rattle.laws.specs.Volumes.{Event, awarded, earned, last_word, sent, received}

-- what holds of a day once it is opened, and before
abbrev pub Opened : Stage → (Day → Type 0) → Type 0
Opened Unopened P = Unit {0}
Opened (InAnnouncing s) P = P s.day
Opened (InReconciling s) P = P s.day
Opened (InIntraday s) P = P s.day

abbrev pub NotYet : Stage → Type 0 → Type 0
NotYet Unopened P = P
NotYet (InAnnouncing s) P = Unit {0}
NotYet (InReconciling s) P = Unit {0}
NotYet (InIntraday s) P = Unit {0}

-- the statuses at which both sides have announced one amount
abbrev pub agreed : Status → Bool
agreed WaitingForCounterpart = false
agreed BalanceOk = true
agreed BalanceError = false
agreed Confirmed = true
agreed (Rejected why) = false
agreed Waiting = false
agreed Accepted = false
agreed Declined = false
agreed Lapsed = false

-- a request says what was announced last for it
pub record Matches {Q R : Type 0} (m : Measure Q R) (a : Announcement Q) (r : Request R) : Type 0 where
  pub passage : a.passage ≡ r.passage
  pub giver_there : a.passage.giver < 32
  pub taker_there : a.passage.taker < 32
  pub quantity : agreed r.status ≡ true → m.amount a.quantity ≡ m.amount (passing m r.giving)

abbrev pub Founded : {Q R : Type 0} → Measure Q R → Option (Announcement Q) → Option (Request R) → Type 0
Founded m o None = Unit {0}
Founded m None (Some r) = ⊥
Founded m (Some a) (Some r) = Matches m a r

-- an event of a bureau, with the day that it is of
pub record Entry (Q : Type 0) : Type 0 where
  pub day : ℕ
  pub event : Event Q

-- the history of one day
unfoldable pub of_day : {Q : Type 0} → ℕ → List (Entry Q) → List (Event Q)
of_day d [] = []
of_day d (e ∷ h) = cond (e.day == d) (e.event ∷ of_day d h) (of_day d h)

-- the days with another one in the place of d
unfoldable pub put_day : {D : Type 0} → (ℕ → D) → ℕ → D → (ℕ → D)
put_day days d s k = cond (k == d) s (days k)

module _ {Q R : Type 0} (m : Measure Q R) (tenths : Q → ℕ → ℕ) (directions : ℕ) where
  -- the law of one day over its history: in each quarter each provider's holding and what passed from it are its awards and what
  -- passed to it; all holdings together are all awards; each provider's earnings are what its awards earned
  pub record DayLaw (h : List (Event Q)) (s : DayState Q R) : Type 0 where
    pub volume :
        Opened s.stage (λ day. (p t : ℕ) → p < 32 → t < 100 →
        m.plus (amounts m s.held p t) (sent m h s.requests p t) ≡ m.plus (awarded m tenths directions day.quarters p t h) (received m h s.requests p t))
    pub together :
        Opened s.stage (λ day. (t : ℕ) → t < 100 →
        sum_below m (λ p. amounts m s.held p t) 32 ≡ sum_below m (λ p. awarded m tenths directions day.quarters p t h) 32)
    pub earnings : Opened s.stage (λ day. (p : ℕ) → p < 32 → s.sheet.earned p ≡ earned m tenths directions day.quarters p h)
    -- what makes it last: every request is as it was announced last, the day has one of its lengths, nothing is taken before the opening
    pub founded : Opened s.stage (λ day. (k : ℕ) → Founded m (last_word k h) (slice_get s.requests k))
    pub length : Opened s.stage (λ day. day_length day.quarters ≡ true)
    pub quiet : NotYet s.stage ((quarters p t : ℕ) → (awarded m tenths directions quarters p t h ≡ m.none) × (earned m tenths directions quarters p h ≡ 0))

  -- a call answers what is defined for the day before it, and leaves what is defined
  pub record Performed (before : DayState Q R) (call : LentDayCall Q) (answer : Outcome Q) (after : DayState Q R) : Type 0 where
    pub answer_is : said answer ≡ answered m tenths directions before call
    pub stage_is : after.stage ≡ stage_after m tenths directions before call
    pub held_is : amounts m after.held ≡ held_after m tenths directions before call
    pub requests_is : after.requests ≡ requests_after m tenths directions before call
    pub sheet_is : after.sheet ≡ sheet_after m tenths directions before call
    pub places_stay : after.places ≡ before.places
    pub admission_stays : after.admission ≡ before.admission
    pub bids_stay : amounts m after.bids ≡ amounts m before.bids
    pub room_stays : after.room ≡ before.room

  -- the law of all days of a bureau over its whole history
  abbrev pub Laws : List (Entry Q) → (ℕ → DayState Q R) → Type 0
  Laws h days = (d : ℕ) → DayLaw (of_day d h) (days d)

  -- whatever bureau the day is part of, whatever was called before on any of its days: the law goes on to hold
  abbrev pub KeepsLaw : DayState Q R → LentDayCall Q → Outcome Q → DayState Q R → Type 0
  KeepsLaw before call answer after =
      (d : ℕ) (days : ℕ → DayState Q R) (h : List (Entry Q)) → days d ≡ before → Laws h days →
      Laws (record { day = d; event = record { call = call; answer = answer } } ∷ h) (put_day days d after)

  -- the theorem: a call that is performed as defined keeps the law
  abbrev pub Kept : Type 0
  Kept = (before after : DayState Q R) (call : LentDayCall Q) (answer : Outcome Q) → Performed before call answer after → KeepsLaw before call answer after
