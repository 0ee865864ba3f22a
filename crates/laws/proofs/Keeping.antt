-- Each call of a day keeps what stands of it.
use Rattle.std.proofs.Common.{◌≡◌, ℕ, ◌<◌, true, false, List, [], ◌∷◌, ℤ, Some, None, Option, Bor, refl, arith}
use Rattle.std.proofs.lemmas.Bool.Decides.{nat_tests}
use Rattle.std.proofs.lemmas.Grind.{common_steps}
use Rattle.std.proofs.lemmas.List.{nil_from_length}
use Rattle.quantity.specs.Measure.{Measure}
use Rattle.book.specs.Grid.{Grid, amounts}
use Rattle.book.proofs.Counts.{nothing_zero, taken_put}
use Rattle.refusals.specs.declared.refusal.Refusal.{Refusal}
use Rattle.refusals.specs.First.{unless_refused}
use Rattle.refusals.proofs.Firsts.{front_clear, front_passes}
use Rattle.requests.specs.declared.request.Request.{Request}
use Rattle.requests.specs.Announcing.{announcement_place}
use Rattle.span_moves.proofs.Shares.{raise_adds}
use Rattle.awards.specs.declared.awarded.Award.{Award}
use Rattle.awards.specs.Sheets.{SheetView}
use Rattle.awards.specs.Awards.{award_refusal, award_after, award_sheet}
use Rattle.awards.proofs.Quarters.{last_end}
use Rattle.gates.specs.declared.gate.Gate.{Gate}
use Rattle.gates.specs.declared.gate.Gate.TheVariants.{First, Second}
use Rattle.gates.specs.Gates.{after_moves, gated}
use Rattle.day.specs.declared.opening.NewDay.{NewDay}
use Rattle.day.specs.declared.stages.Day.{Day}
use Rattle.requests.specs.declared.announcement.Announcement.{Announcement}
use Rattle.day.specs.Announcing.{at_minute, announced_list, announced_day}
use Rattle.day.specs.Opening.{day_length}
use Rattle.day.specs.Gating.{gate_refusal}
use Rattle.day_calls.specs.Calls.{LentDayCall}
use Rattle.day_calls.specs.declared.calls.DayCall.TheVariants.{Open, Award as AwardCall, Announce, Gate as GateCall}
use Rattle.day_calls.specs.declared.desk.Stage.{Stage}
use Rattle.day_calls.specs.declared.desk.Stage.TheVariants.{Unopened, Announcing as InAnnouncing, Reconciling as InReconciling}
use Rattle.day_calls.specs.Answers.{Said, Outcome, numbered, said, unless}
use Rattle.day_calls.specs.Days.{DayState, joining_before, same_stage, next_stage, open_refused, award_refused, announce_refused, answered, stage_after, held_after, requests_after, sheet_after}
use Rattle.laws.specs.Sums.{sum_of, sum_from}
use Rattle.laws.specs.Volumes.{Event, award_of, earned, last_word, from_giver, to_taker}
use Rattle.laws.proofs.Answers.{tells_awarded, tells_placed, awarded_by, placed_by, unless_award, unless_place}
use Rattle.laws.proofs.Stands.{AllFounded, StandsAt, awards_of, words_of, no_award, no_word, idle}
use Rattle.laws.proofs.Gating.{gate_volume, gate_founded}
use Rattle.laws.proofs.Announcing.{goes, stays}

module _ {Q R : Type 0} (m : Measure Q R) (tenths : Q → ℕ → ℕ) (directions : ℕ) (s : DayState Q R) (h : List (Event Q)) (answer : Outcome Q) where
  abbrev grid : Grid m.Amount
  grid = amounts m s.held

  abbrev Before : Stage → Type 0
  Before stage = StandsAt m tenths directions h stage grid s.requests s.sheet

  -- the history with a call, and what stands after it
  abbrev more : LentDayCall Q → List (Event Q)
  more call = record { call = call; answer = answer } ∷ h

  abbrev After : LentDayCall Q → Stage → Grid m.Amount → List (Request R) → SheetView → Type 0
  After call = StandsAt m tenths directions (more call)

  -- a refusal, or an answer that takes nothing; of a refused call any such answer will do
  rests : (call : LentDayCall Q) (o : Option Refusal) (answers : Said Q) → said answer ≡ unless o answers → tells_awarded answers.numbers ≡ false → ((k : ℕ) → tells_placed k answers.numbers ≡ false) → (stage : Stage) → Before stage → After call stage grid s.requests s.sheet
  rests call o answers e a w stage =
      idle m tenths directions (record { call = call; answer = answer }) h (awarded_by answer (unless o answers) false e (unless_award o answers a)) (λ k. placed_by k answer (unless o answers) false e (unless_place k o answers (w k))) stage grid s.requests s.sheet

  -- the day in a stage, and what a call there comes to
  abbrev at : Stage → DayState Q R
  at stage = record s { stage = stage }

  abbrev Keeps : LentDayCall Q → Stage → Type 0
  Keeps call stage =
      Before stage → said answer ≡ answered m tenths directions (at stage) call →
      After call (stage_after m tenths directions (at stage) call) (held_after m tenths directions (at stage) call) (requests_after m tenths directions (at stage) call) (sheet_after m tenths directions (at stage) call)

  -- an opening: no holding is taken, and there is no request
  open_keeps : (new : NewDay) → Keeps (Open new) Unopened
  unfolding answered stage_after held_after requests_after sheet_after amounts sum_from
  open_keeps new x e =
      let y = rests (Open new) (open_refused m tenths directions s new) (numbered (0 ∷ (1 ∷ []))) e refl (λ k. refl) Unopened x in
      let put = λ (p t : ℕ) (hp : p < 32) (ht : t < 100). taken_put m s.held p t hp ht m.nothing in
      let nothing_earned = λ (p : ℕ). (y.quiet new.quarters p 0).1 in
      grind (arith, nat_tests, nil_from_length, nothing_zero m, m.alike_same, m.nothing_none)

  -- an award adds its quantity to the holdings of its block
  award_adds :
      (a : Award Q (Bor (List ℕ))) (day : Day) → day_length day.quarters ≡ true → award_refused m tenths directions s day a ≡ None → (p t : ℕ) →
      held_after m tenths directions (at (same_stage First day)) (AwardCall a) p t ≡ m.plus (award_of m tenths directions day.quarters p t (AwardCall a)) (grid p t)
  unfolding held_after award_refusal award_after
  award_adds a day l e p t = grind (arith, nat_tests, front_clear, front_passes, raise_adds m s.held s.places s.admission, last_end)

  award_by :
      (a : Award Q (Bor (List ℕ))) (day : Day) (o : Option Refusal) → award_refused m tenths directions s day a ≡ o → Before (same_stage First day) → said answer ≡ unless o (numbered (0 ∷ (2 ∷ []))) →
      After (AwardCall a) (same_stage First day) (held_after m tenths directions (at (same_stage First day)) (AwardCall a)) s.requests (sheet_after m tenths directions (at (same_stage First day)) (AwardCall a))
  unfolding held_after sheet_after sum_of earned award_after award_sheet
  award_by a day o e x says =
      let words = no_word m tenths directions (record { call = AwardCall a; answer = answer }) h (λ k. grind (arith, nat_tests)) in
      let now = award_adds a day x.length in
      rw words (grind (arith, nat_tests, m.groups, m.neutral))

  -- an announcement
  announce_by :
      (a : Announcement Q) (gate : Gate) (day : Day) (o : Option Refusal) → announce_refused m tenths directions s gate day a ≡ o → Before (same_stage gate day) →
      said answer ≡ unless o (numbered (0 ∷ (3 ∷ (announcement_place (joining_before gate) s.requests a.passage ∷ [])))) →
      After (Announce a) (same_stage gate (announced_day day a o)) grid (announced_list m day (joining_before gate) a s.requests s.room) s.sheet
  unfolding last_word
  announce_by a gate day None e x says =
      let none = no_award m tenths directions (record { call = Announce a; answer = answer }) h (grind arith) in
      let words = words_of m tenths directions h in
      let then = goes m (joining_before gate) a s.requests s.room words (words_of m tenths directions (more (Announce a))) day e (λ j. grind (arith, nat_tests)) in
      let out = λ (y : AllFounded m words s.requests) (p t : ℕ). (then y).1 (from_giver m p t) in
      let into = λ (y : AllFounded m words s.requests) (p t : ℕ). (then y).1 (to_taker m p t) in
      rw (none.0, none.1) (grind (arith, common_steps))
  announce_by a gate day (Some r) e x says =
      rw (stays m (joining_before gate) a s.requests s.room day r e) (rests (Announce a) (Some r) (numbered (0 ∷ (1 ∷ []))) says refl (λ k. refl) (same_stage gate day) x)

  -- a gate
  gate_by :
      (minute : ℤ) (gate : Gate) (day : Day) (o : Option Refusal) → Before (same_stage gate day) → said answer ≡ unless o (numbered (0 ∷ (4 ∷ []))) →
      After (GateCall minute) (unless_refused o (next_stage gate (at_minute day minute)) (same_stage gate day)) (unless_refused o (amounts m (after_moves m s.places s.admission s.held s.requests)) grid) (unless_refused o (gated m s.places s.admission gate s.held s.requests) s.requests) s.sheet
  gate_by minute gate day o x says =
      let hh = more (GateCall minute) in
      let y = rests (GateCall minute) o (numbered (0 ∷ (4 ∷ []))) says refl (λ k. refl) (same_stage gate day) x in
      let volume = gate_volume m s.places s.admission gate (awards_of m tenths directions hh day.quarters) (words_of m tenths directions hh) s.held s.requests in
      let founded = gate_founded m s.places s.admission gate (words_of m tenths directions hh) s.held s.requests in
      grind (arith, common_steps)

  -- every call, in every stage
  pub keeps : (call : LentDayCall Q) (stage : Stage) → Keeps call stage
  unfolding answered stage_after held_after requests_after sheet_after
  keeps (Open new) Unopened = open_keeps new
  keeps (AwardCall a) (InAnnouncing w) = award_by a w.day _ refl
  keeps (Announce a) (InAnnouncing w) = announce_by a First w.day _ refl
  keeps (Announce a) (InReconciling w) = announce_by a Second w.day _ refl
  keeps (GateCall minute) (InAnnouncing w) = gate_by minute First w.day (gate_refusal First w.day minute)
  keeps (GateCall minute) (InReconciling w) = gate_by minute Second w.day (gate_refusal Second w.day minute)
  keeps call stage = λ x e. rests call None (answered m tenths directions (at stage) call) e (grind (arith, nat_tests, unless_award)) (λ k. grind (arith, nat_tests, unless_place {Q = Q} k)) stage x
