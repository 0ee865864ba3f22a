-- What passed from all providers together is what passed to them, so all holdings are all awards.
use Rattle.std.proofs.Common.{◌≡◌, ℕ, suc, ◌+◌, ◌<◌, Bool, true, false, cond, ◌&&◌, ltb, leb, List, [], ◌∷◌, Some, None, Option, refl, arith}
use Rattle.std.specs.List.{slice_get}
use Rattle.quantity.specs.Measure.{Measure}
use Rattle.book.specs.Grid.{Grid, amounts}
use Rattle.awards.specs.Sheets.{SheetView}
use Rattle.requests.specs.declared.request.Request.{Request}
use Rattle.requests.specs.declared.announcement.Announcement.{Announcement}
use Rattle.day.specs.declared.stages.Day.{Day}
use Rattle.day_calls.specs.declared.desk.Stage.{Stage}
use Rattle.day_calls.specs.declared.desk.Stage.TheVariants.{Unopened, Announcing as InAnnouncing, Reconciling as InReconciling, Intraday as InIntraday}
use Rattle.day_calls.specs.Days.{DayState}
use Rattle.laws.specs.Sums.{sum_from, sum_below}
use Rattle.laws.specs.Volumes.{Event, is_confirmed, from_giver, to_taker}
use Rattle.laws.specs.Laws.{Opened, Founded, DayLaw}
use Rattle.laws.proofs.Sums.{cancels_right, below_alike, below_plus, below_one}
use Rattle.laws.proofs.Stands.{Words, counted, passed, Volume, AllFounded, founded_from, StandsAt, awards_of}

-- what follows of an opened day
pub opened_map : (stage : Stage) (A B C : Day → Type 0) → ((day : Day) → A day → B day → C day) → Opened stage A → Opened stage B → Opened stage C
opened_map Unopened A B C f a b = tt
opened_map (InAnnouncing s) A B C f a b = f s.day a b
opened_map (InReconciling s) A B C f a b = f s.day a b
opened_map (InIntraday s) A B C f a b = f s.day a b

module _ {Q R : Type 0} (m : Measure Q R) where
  -- the last word for a request: its giver and its taker are both counted
  even : (t : ℕ) (b : Bool) (o : Option (Announcement Q)) (r : Request R) → Founded m o (Some r) → sum_below m (λ p. cond b (from_giver m p t o) m.none) 32 ≡ sum_below m (λ p. cond b (to_taker m p t o) m.none) 32
  even t false o r f = refl
  even t true None r f = absurd f
  even t true (Some a) r f =
      let b = leb a.passage.first t && ltb t (a.passage.last + 1) in
      cc (below_one m a.passage.giver b (m.amount a.quantity) 32 f.giver_there, below_one m a.passage.taker b (m.amount a.quantity) 32 f.taker_there)

  all_even : (words : Words Q) (t k : ℕ) (rs : List (Request R)) → ((j i : ℕ) → j ≡ k + i → Founded m (words j) (slice_get rs i)) → sum_below m (λ p. sum_from m (counted m (from_giver m p t) words) k rs) 32 ≡ sum_below m (λ p. sum_from m (counted m (to_taker m p t) words) k rs) 32
  unfolding sum_from
  all_even words t k [] founded = refl
  all_even words t k (r ∷ rs) founded =
      let here = even t (is_confirmed r.status) (words k) r (founded k 0 (omega arith)) in
      let rest = all_even words t (suc k) rs (λ j i e. founded j (suc i) (omega arith)) in
      simp (sum_from, below_plus, here, rest)

  pub holdings_awards : (awards : ℕ → ℕ → m.Amount) (words : Words Q) (grid : Grid m.Amount) (rs : List (Request R)) → Volume m awards words grid rs → AllFounded m words rs → (t : ℕ) → t < 100 → sum_below m (λ p. grid p t) 32 ≡ sum_below m (λ p. awards p t) 32
  holdings_awards awards words grid rs volume founded t h =
      let same = all_even words t 0 rs (founded_from m words rs founded) in
      let sums = simp below_plus at (below_alike m _ _ 32 (λ p l. volume p t l h)) in
      cancels_right m _ _ (sum_below m (λ p. passed m (to_taker m p t) words rs) 32) (cc)

module _ {Q R : Type 0} (m : Measure Q R) (tenths : Q → ℕ → ℕ) (directions : ℕ) (h : List (Event Q)) where
  -- once a day is opened, all its holdings are all its awards
  together : (stage : Stage) (grid : Grid m.Amount) (rs : List (Request R)) (sheet : SheetView) → StandsAt m tenths directions h stage grid rs sheet → Opened stage (λ day. (t : ℕ) → t < 100 → sum_below m (λ p. grid p t) 32 ≡ sum_below m (λ p. awards_of m tenths directions h day.quarters p t) 32)
  together Unopened grid rs sheet x = tt
  together stage grid rs sheet x = holdings_awards m _ _ grid rs x.volume x.founded

  -- the law from what stands
  pub law_stands : (s : DayState Q R) → StandsAt m tenths directions h s.stage (amounts m s.held) s.requests s.sheet → DayLaw m tenths directions h s
  law_stands s x = record { volume = x.volume; together = together s.stage (amounts m s.held) s.requests s.sheet x; earnings = x.earnings; founded = x.founded; length = x.length; quiet = x.quiet }
