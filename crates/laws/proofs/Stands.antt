-- The law of a day by what was counted over its history: awards, earnings, and the last word for each place.
use Rattle.std.proofs.Common.{◌≡◌, ℕ, ◌+◌, ◌<◌, true, false, cond, List, [], ◌∷◌, Option, refl, zero-add, arith}
use mathlib.Core.Path.{fun_ext}
use Rattle.std.specs.List.{slice_get}
use Rattle.quantity.specs.Measure.{Measure}
use Rattle.book.specs.Grid.{Grid, amounts}
use Rattle.awards.specs.Sheets.{SheetView}
use Rattle.requests.specs.declared.request.Request.{Request}
use Rattle.requests.specs.declared.announcement.Announcement.{Announcement}
use Rattle.day.specs.Opening.{day_length}
use Rattle.day_calls.specs.declared.desk.Stage.{Stage}
use Rattle.day_calls.specs.declared.desk.Stage.TheVariants.{Unopened}
use Rattle.day_calls.specs.Days.{DayState}
use Rattle.laws.specs.Sums.{sum_of, sum_from}
use Rattle.laws.specs.Volumes.{Event, is_confirmed, is_awarded, is_placed, awarded, earned, last_word, from_giver, to_taker}
use Rattle.laws.specs.Laws.{Opened, NotYet, Founded, DayLaw}

-- the last words, place by place
abbrev pub Words : Type 0 → Type 0
Words Q = ℕ → Option (Announcement Q)

module _ {Q R : Type 0} (m : Measure Q R) where
  -- what f says of the last word for a request, where it is confirmed, and the sum of it over all requests
  abbrev pub counted : (Option (Announcement Q) → m.Amount) → Words Q → ℕ → Request R → m.Amount
  counted f words k r = cond (is_confirmed r.status) (f (words k)) m.none

  abbrev pub passed : (Option (Announcement Q) → m.Amount) → Words Q → List (Request R) → m.Amount
  passed f words rs = sum_from m (counted f words) 0 rs

  abbrev pub Volume : (ℕ → ℕ → m.Amount) → Words Q → Grid m.Amount → List (Request R) → Type 0
  Volume awards words grid rs = (p t : ℕ) → p < 32 → t < 100 → m.plus (grid p t) (passed (from_giver m p t) words rs) ≡ m.plus (awards p t) (passed (to_taker m p t) words rs)

  abbrev pub Earnings : (ℕ → ℕ) → SheetView → Type 0
  Earnings earns sheet = (p : ℕ) → p < 32 → sheet.earned p ≡ earns p

  abbrev pub AllFounded : Words Q → List (Request R) → Type 0
  AllFounded words rs = (k : ℕ) → Founded m (words k) (slice_get rs k)

  -- the same, with the place counted from 0
  pub founded_from : (words : Words Q) (rs : List (Request R)) → AllFounded words rs → (j i : ℕ) → j ≡ 0 + i → Founded m (words j) (slice_get rs i)
  founded_from words rs founded j i e = grind (arith, founded i)

  pub record Stands (awards : ℕ → ℕ → ℕ → m.Amount) (earns : ℕ → ℕ → ℕ) (words : Words Q) (stage : Stage) (grid : Grid m.Amount) (rs : List (Request R)) (sheet : SheetView) : Type 0 where
    pub volume : Opened stage (λ day. Volume (awards day.quarters) words grid rs)
    pub earnings : Opened stage (λ day. Earnings (earns day.quarters) sheet)
    pub founded : Opened stage (λ day. AllFounded words rs)
    pub length : Opened stage (λ day. day_length day.quarters ≡ true)
    pub quiet : NotYet stage ((quarters p t : ℕ) → (awards quarters p t ≡ m.none) × (earns quarters p ≡ 0))

module _ {Q R : Type 0} (m : Measure Q R) (tenths : Q → ℕ → ℕ) (directions : ℕ) where
  abbrev pub awards_of : List (Event Q) → ℕ → ℕ → ℕ → m.Amount
  awards_of h quarters p t = awarded m tenths directions quarters p t h

  abbrev pub earns_of : List (Event Q) → ℕ → ℕ → ℕ
  earns_of h quarters p = earned m tenths directions quarters p h

  abbrev pub words_of : List (Event Q) → Words Q
  words_of h k = last_word k h

  -- the law of a day over its history, without the sums over all providers
  abbrev pub StandsAt : List (Event Q) → Stage → Grid m.Amount → List (Request R) → SheetView → Type 0
  StandsAt h stage grid rs sheet = Stands m (awards_of h) (earns_of h) (words_of h) stage grid rs sheet

  pub stands : (h : List (Event Q)) (s : DayState Q R) → DayLaw m tenths directions h s → StandsAt h s.stage (amounts m s.held) s.requests s.sheet
  stands h s law = record { volume = law.volume; earnings = law.earnings; founded = law.founded; length = law.length; quiet = law.quiet }

  -- an event that takes no award and no announcement changes nothing
  module _ (e : Event Q) (h : List (Event Q)) where
    pub no_award : is_awarded e.answer ≡ false → (awards_of (e ∷ h) ≡ awards_of h) × (earns_of (e ∷ h) ≡ earns_of h)
    unfolding sum_of earned
    no_award n = (fun_ext (λ q. fun_ext (λ p. fun_ext (λ t. rw (sum_of, n, m.neutral)))), fun_ext (λ q. fun_ext (λ p. rw (earned, n, zero-add))))

    pub no_word : ((k : ℕ) → is_placed k e.answer ≡ false) → words_of (e ∷ h) ≡ words_of h
    unfolding last_word
    no_word n = fun_ext (λ k. rw (last_word, n k))

    -- such an event keeps what stands
    pub idle : is_awarded e.answer ≡ false → ((k : ℕ) → is_placed k e.answer ≡ false) → (stage : Stage) (grid : Grid m.Amount) (rs : List (Request R)) (sheet : SheetView) → StandsAt h stage grid rs sheet → StandsAt (e ∷ h) stage grid rs sheet
    idle n w stage grid rs sheet s = rw ((no_award n).0, (no_award n).1, no_word w) s

  -- before the first call
  pub nothing_yet : (grid : Grid m.Amount) (rs : List (Request R)) (sheet : SheetView) → StandsAt [] Unopened grid rs sheet
  unfolding sum_of earned
  nothing_yet grid rs sheet = record { volume = tt; earnings = tt; founded = tt; length = tt; quiet = λ quarters p t. (refl, refl) }
