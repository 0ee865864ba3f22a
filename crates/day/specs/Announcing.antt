-- What an announcement answers and changes, by the day, what may be joined and the list.
use Rattle.std.specs.Prelude.{ℕ, not, ◌&&◌, List, [], ◌∷◌, ◌++◌, ℤ, Option, ◌==◌, int_lt, nat_le, nat_lt}
use Rattle.quantity.specs.Measure.{Measure, is_zero}
use Rattle.refusals.specs.declared.refusal.Refusal.{Refusal}
use Rattle.refusals.specs.declared.refusal.Refusal.TheVariants.{NoSuchSpan, SameProvider, ZeroQuantity, MinuteBeforeLast, TooLate}
use Rattle.refusals.specs.Checks.{no_provider}
use Rattle.refusals.specs.First.{first_some, when, unless_refused}
use Rattle.requests.specs.declared.request.Request.{Request}
use Rattle.requests.specs.declared.finding.Joining.{Joining}
use Rattle.requests.specs.Announcing.{announcement_refusal, announcement_list}
use Rattle.day.specs.declared.stages.Day.{Day}
use Rattle.requests.specs.declared.announcement.Announcement.{Announcement}
use Rattle.day.specs.Minutes.{deadline_of}

-- a span backwards or past the day
abbrev pub no_span : Day → ℕ → ℕ → Option Refusal
no_span day first last = when (not (nat_le first last && nat_lt last day.quarters)) NoSuchSpan

module _ {Q R : Type 0} (m : Measure Q R) (day : Day) (joining : Joining) (said : Announcement Q) where
  -- why an announcement is refused before the list is looked at
  abbrev pub outline : List (Option Refusal)
  outline =
      no_provider said.passage.giver
      ∷ (no_provider said.passage.taker
      ∷ (no_span day said.passage.first said.passage.last
      ∷ (when (said.passage.giver == said.passage.taker) SameProvider
      ∷ (when (is_zero m said.quantity) ZeroQuantity
      ∷ (when (int_lt said.minute day.minute) MinuteBeforeLast
      ∷ (when (not (int_lt said.minute (deadline_of joining))) TooLate ∷ []))))))

  abbrev pub outline_refusal : Option Refusal
  outline_refusal = first_some outline

  -- why an announcement is refused, if it is
  unfoldable pub announce_refusal : List (Request R) → ℕ → Option Refusal
  announce_refusal xs places = first_some (outline ++ (announcement_refusal joining xs places said.passage ∷ []))

  -- the list after an announcement
  unfoldable pub announced_list : List (Request R) → ℕ → List (Request R)
  announced_list xs places =
      unless_refused outline_refusal (announcement_list m joining xs places said.side said.passage said.quantity) xs

-- the day with another last minute
abbrev pub at_minute : Day → ℤ → Day
at_minute day minute = record { number = day.number; quarters = day.quarters; minute = minute }

-- the day after an announcement: a refused one keeps the last minute
abbrev pub announced_day : {Q : Type 0} → Day → Announcement Q → Option Refusal → Day
announced_day day said refusal = unless_refused refusal (at_minute day said.minute) day
