-- A bureau: its days side by side, what one call does to it, and what a run of calls does.
use Rattle.std.specs.Prelude.{◌≡◌, ℕ, ◌+◌, Bool, true, false, cond, ◌⊎◌, List, [], map, length, nat_lt, slice_index_or, Ok, Err}
use Rattle.quantity.specs.Measure.{Measure}
use Rattle.book.specs.Calls.{everything}
use Rattle.awards.specs.Sheets.{blank_view}
use Rattle.day.specs.declared.opening.NewDay.{NewDay}
use Rattle.day_calls.specs.Calls.{LentDayCall}
use Rattle.day_calls.specs.declared.calls.DayCall.TheVariants.{Open as OpenDay}
use Rattle.day_calls.specs.declared.calls.Answer.TheVariants.{Opened, Awarded, Placed, GatePassed, Held, Lacking, Standing}
use Rattle.day_calls.specs.declared.calls.NotDone.TheVariants.{NotCalled as NotMade}
use Rattle.day_calls.specs.declared.calls.NotCalled.TheVariants.{NoSuchDay, NoMemory}
use Rattle.day_calls.specs.declared.desk.Stage.TheVariants.{Unopened}
use Rattle.day_calls.specs.Answers.{Outcome}
use Rattle.day_calls.specs.Days.{DayState}
use Rattle.laws.specs.Laws.{Entry, Performed, put_day}
use Rattle.bureau.specs.Calls.{LentCall}
use Rattle.bureau.specs.declared.calls.Call.TheVariants.{Open, On}
use Rattle.bureau.specs.declared.calls.Reply.{Reply}
use Rattle.bureau.specs.Fresh.{Fresh}

-- a day that the bureau does not have
abbrev pub absent_day : {Q R : Type 0} → Measure Q R → DayState Q R
absent_day m = record { stage = Unopened; held = λ p t. m.nothing; places = 0; admission = everything; bids = λ p t. m.nothing; requests = []; room = 0; sheet = blank_view }

-- the days by their handles, and how many there are
pub record BureauState (Q R : Type 0) : Type 0 where
  pub days : ℕ → DayState Q R
  pub count : ℕ

-- what desks mean, by what one desk means
abbrev pub bureau_of : {D Q R : Type 0} → Measure Q R → (D → DayState Q R) → List D → BureauState Q R
bureau_of m state desks = record { days = λ d. slice_index_or (map state desks) d (absent_day m); count = length desks }

abbrev pub is_opened : {Q : Type 0} → Outcome Q → Bool
is_opened (Ok Opened) = true
is_opened (Ok Awarded) = false
is_opened (Ok (Placed place)) = false
is_opened (Ok GatePassed) = false
is_opened (Ok (Held q)) = false
is_opened (Ok (Lacking x)) = false
is_opened (Ok (Standing status)) = false
is_opened (Err why) = false

-- the event of a call and its reply
abbrev pub entry_of : {Q : Type 0} → LentCall Q → Reply Q → Entry Q
entry_of (Open new) reply = record { day = reply.day; event = record { call = OpenDay new; answer = reply.answer } }
entry_of (On day call) reply = record { day = day; event = record { call = call; answer = reply.answer } }

module _ {Q R : Type 0} (m : Measure Q R) (tenths : Q → ℕ → ℕ) (directions : ℕ) where
  -- nothing changes
  pub record Unchanged (before after : BureauState Q R) : Type 0 where
    pub days_stay : after.days ≡ before.days
    pub count_stays : after.count ≡ before.count

  -- a fresh day is opened at the next handle, or its opening is refused and it is not kept
  pub record OpenedDay (before : BureauState Q R) (new : NewDay) (answer : Outcome Q) (after : BureauState Q R) : Type 0 where
    pub supplied : DayState Q R
    pub opened : DayState Q R
    pub fresh : Fresh m supplied
    pub performed : Performed m tenths directions supplied (OpenDay new) answer opened
    pub days_are : after.days ≡ cond (is_opened answer) (put_day before.days before.count opened) before.days
    pub count_is : after.count ≡ cond (is_opened answer) (before.count + 1) before.count

  -- a call is made of a day, and the other days stay
  pub record OnDay (before : BureauState Q R) (day : ℕ) (call : LentDayCall Q) (answer : Outcome Q) (after : BureauState Q R) : Type 0 where
    pub then : DayState Q R
    pub performed : Performed m tenths directions (before.days day) call answer then
    pub days_are : after.days ≡ put_day before.days day then
    pub count_stays : after.count ≡ before.count

  -- a call of a day that there is, or is not
  abbrev pub Called : Bool → BureauState Q R → ℕ → LentDayCall Q → Outcome Q → BureauState Q R → Type 0
  Called true before day call answer after = OnDay before day call answer after
  Called false before day call answer after = (answer ≡ Err (NotMade NoSuchDay)) × Unchanged before after

  -- a day is opened or refused, or there is no memory for it
  abbrev pub Opening : BureauState Q R → NewDay → Outcome Q → BureauState Q R → Type 0
  Opening before new answer after = ((answer ≡ Err (NotMade NoMemory)) × Unchanged before after) ⊎ OpenedDay before new answer after

  -- what one call of a bureau answers and changes: the defined thing, or nothing for want of memory or of such a day
  abbrev pub Stepped : BureauState Q R → LentCall Q → Reply Q → BureauState Q R → Type 0
  Stepped before (Open new) reply after =
      (reply.day ≡ before.count)
      × Opening before new reply.answer after
  Stepped before (On day call) reply after =
      (reply.day ≡ day)
      × Called (nat_lt day before.count) before day call reply.answer after

-- a bureau without days
abbrev pub empty_bureau : {Q R : Type 0} → Measure Q R → BureauState Q R
empty_bureau m = record { days = λ d. absent_day m; count = 0 }
