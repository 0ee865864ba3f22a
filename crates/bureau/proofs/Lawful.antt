-- One call of a bureau keeps the law.
use Rattle.std.proofs.Common.{◌≡◌, ℕ, ◌≤◌, Bool, true, false, nat_lt, List, [], ◌∷◌, Option, Err, refl, ap, ⊎_elim, arith}
use Rattle.quantity.specs.Measure.{Measure}
use Rattle.book.specs.Grid.{amounts}
use Rattle.refusals.specs.declared.refusal.Refusal.{Refusal}
use Rattle.day.specs.declared.opening.NewDay.{NewDay}
use Rattle.day_calls.specs.Calls.{LentDayCall}
use Rattle.day_calls.specs.declared.calls.DayCall.TheVariants.{Open as OpenDay}
use Rattle.day_calls.specs.declared.calls.NotDone.TheVariants.{NotCalled as NotMade}
use Rattle.day_calls.specs.declared.calls.NotCalled.{NotCalled}
use Rattle.day_calls.specs.declared.calls.NotCalled.TheVariants.{NoSuchDay, NoMemory}
use Rattle.day_calls.specs.declared.desk.Stage.{Stage}
use Rattle.day_calls.specs.Answers.{Outcome, said, numbered, unless, not_in_stage}
use Rattle.day_calls.specs.Days.{DayState, if_unopened, answered, open_refused}
use Rattle.laws.specs.Volumes.{Event, is_awarded, is_placed}
use Rattle.laws.specs.Laws.{Entry, of_day, put_day, DayLaw, Laws}
use Rattle.laws.proofs.Answers.{awarded_by, placed_by, unless_award, unless_place}
use Rattle.laws.proofs.Stands.{stands, idle}
use Rattle.laws.proofs.Together.{law_stands}
use Rattle.laws.proofs.Theorem.{put_here, put_else, day_kept, by_day, kept}
use Rattle.bureau.specs.Calls.{LentCall}
use Rattle.bureau.specs.declared.calls.Call.TheVariants.{Open, On}
use Rattle.bureau.specs.declared.calls.Reply.{Reply}
use Rattle.bureau.specs.Fresh.{Fresh}
use Rattle.bureau.specs.Bureaus.{absent_day, BureauState, bureau_of, is_opened, entry_of, OpenedDay, Called, Stepped}
use Rattle.bureau.proofs.Days.{none_past}

module _ {Q R : Type 0} (m : Measure Q R) (tenths : Q → ℕ → ℕ) (directions : ℕ) where
  -- no award and no announcement was taken
  abbrev Quiet : Outcome Q → Type 0
  Quiet answer = (is_awarded answer ≡ false) × ((k : ℕ) → is_placed k answer ≡ false)

  -- such a call, where no day changed
  idle_laws : (d : ℕ) (e : Event Q) (days : ℕ → DayState Q R) (h : List (Entry Q)) → Quiet e.answer → Laws m tenths directions h days → Laws m tenths directions (record { day = d; event = e } ∷ h) days
  idle_laws d e days h q laws =
      let s = days d in
      let before = of_day d h in
      by_day m tenths directions d e days days h laws (λ k n. refl) (law_stands m tenths directions (e ∷ before) s (idle m tenths directions e before q.0 q.1 s.stage (amounts m s.held) s.requests s.sheet (stands m tenths directions before s (laws d))))

  -- a call that was not made
  not_made : (why : NotCalled) (d : ℕ) (e : Event Q) (days after : ℕ → DayState Q R) (h : List (Entry Q)) → e.answer ≡ Err (NotMade why) → after ≡ days → Laws m tenths directions h days → Laws m tenths directions (record { day = d; event = e } ∷ h) after
  not_made why d e days after h is same laws = rw same (idle_laws d e days h (ap is_awarded is, λ k. ap (is_placed k) is) laws)

  -- the answer to an opening
  opening_quiet : (stage : Stage) (o : Option Refusal) (answer : Outcome Q) → said answer ≡ if_unopened stage (unless o (numbered (0 ∷ (1 ∷ [])))) not_in_stage → Quiet answer
  opening_quiet stage o answer e = (awarded_by answer _ false e (grind (arith, unless_award)), λ k. placed_by k answer _ false e (grind (arith, unless_place)))

  -- a fresh day in the place of one that the bureau does not have
  fresh_law : (s : DayState Q R) (h : List (Event Q)) → Fresh m s → DayLaw m tenths directions h (absent_day m) → DayLaw m tenths directions h s
  fresh_law s h f law =
      law_stands m tenths directions h s (rw f.unopened (record { volume = tt; earnings = tt; founded = tt; length = tt; quiet = law.quiet }))

  opened_keeps : (before after : BureauState Q R) (new : NewDay) (d : ℕ) (answer : Outcome Q) → d ≡ before.count → before.days d ≡ absent_day m → OpenedDay m tenths directions before new answer after → (h : List (Entry Q)) → Laws m tenths directions h before.days → Laws m tenths directions (record { day = d; event = record { call = OpenDay new; answer = answer } } ∷ h) after.days
  unfolding answered
  opened_keeps before after new d answer at absent o h laws = by_answer (is_opened answer) refl
    where
      event : Event Q
      event = record { call = OpenDay new; answer = answer }

      by_answer : (b : Bool) → is_opened answer ≡ b → Laws m tenths directions (record { day = d; event = event } ∷ h) after.days
      by_answer true e =
          let fresh = fresh_law o.supplied (of_day d h) o.fresh (rw absent at (laws d)) in
          let opened = day_kept m tenths directions o.supplied o.opened (OpenDay new) answer o.performed (of_day d h) fresh in
          rw (o.days_are, e, ← at) (by_day m tenths directions d event before.days (put_day before.days d o.opened) h laws (put_else before.days d o.opened) (rw (put_here before.days d o.opened d refl) opened))
      by_answer false e =
          rw (o.days_are, e) (idle_laws d event before.days h (opening_quiet o.supplied.stage (open_refused m tenths directions o.supplied new) answer o.performed.answer_is) laws)

  called_keeps : (b : Bool) (before after : BureauState Q R) (d : ℕ) (call : LentDayCall Q) (answer : Outcome Q) → Called m tenths directions b before d call answer after → (h : List (Entry Q)) → Laws m tenths directions h before.days → Laws m tenths directions (record { day = d; event = record { call = call; answer = answer } } ∷ h) after.days
  called_keeps true before after d call answer p h laws = rw p.days_are (kept m tenths directions (before.days d) p.then call answer p.performed d before.days h refl laws)
  called_keeps false before after d call answer p h laws = not_made NoSuchDay d (record { call = call; answer = answer }) before.days after.days h p.0 p.1.days_stay laws

  pub stepped_keeps : (before after : BureauState Q R) (call : LentCall Q) (reply : Reply Q) → ((k : ℕ) → before.count ≤ k → before.days k ≡ absent_day m) → Stepped m tenths directions before call reply after → (h : List (Entry Q)) → Laws m tenths directions h before.days → Laws m tenths directions (entry_of call reply ∷ h) after.days
  stepped_keeps before after (Open new) reply absent s h laws =
      ⊎_elim
      (λ none. not_made NoMemory reply.day (record { call = OpenDay new; answer = reply.answer }) before.days after.days h none.0 none.1.days_stay laws)
      (λ some. opened_keeps before after new reply.day reply.answer s.0 (absent reply.day (omega (arith, s.0))) some h laws)
      s.1
  stepped_keeps before after (On day call) reply absent s h laws = called_keeps (nat_lt day before.count) before after day call reply.answer s.1 h laws

  -- whatever a call of a bureau is, the law goes on to hold
  pub desks_keep : {D : Type 0} (state : D → DayState Q R) (before after : List D) (call : LentCall Q) (reply : Reply Q) → Stepped m tenths directions (bureau_of m state before) call reply (bureau_of m state after) → (h : List (Entry Q)) → Laws m tenths directions h (bureau_of m state before).days → Laws m tenths directions (entry_of call reply ∷ h) (bureau_of m state after).days
  desks_keep state before after call reply s = stepped_keeps (bureau_of m state before) (bureau_of m state after) call reply (none_past m state before) s
