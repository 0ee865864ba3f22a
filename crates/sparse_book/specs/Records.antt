-- What the records of a sparse book tell. A slot is empty or has a record.
use Rattle.std.specs.Prelude.{ℕ, Bool, true, false, cond, not, ◌&&◌, ◌||◌, List, [], ◌∷◌, length, Some, None, Option, ◌==◌, slice_index_or, slice_set, position, count_by}
use Rattle.quantity.specs.Measure.{Measure, is_zero}
use Rattle.book.specs.Grid.{Grid, in_range, put}
use Rattle.book.specs.Calls.{everything, raise_refusal, lower_refusal}
use Rattle.book.specs.declared.answers.BookRefusal.{BookRefusal}
use Rattle.sparse_book.specs.declared.record.Record.{Record}

abbrev pub Slot : Type 0 → Type 0
Slot R = Option (Record R)

-- the slot has the record of provider p in quarter t
abbrev pub keyed : {R : Type 0} → ℕ → ℕ → Slot R → Bool
keyed p t None = false
keyed p t (Some r) = r.provider == p && r.quarter == t

-- the slot is free: it has no record, or one that tells zero
abbrev pub vacant : {Q R : Type 0} → Measure Q R → Slot R → Bool
vacant m None = true
vacant m (Some r) = is_zero m (m.told r.row)

-- some slot has the record of p in t
unfoldable pub mentions : {R : Type 0} → ℕ → ℕ → List (Slot R) → Bool
mentions p t [] = false
mentions p t (s ∷ ss) = keyed p t s || mentions p t ss

-- every record is of the range, and no two are of one provider and quarter
unfoldable pub apart : {R : Type 0} → List (Slot R) → Bool
apart [] = true
apart (None ∷ ss) = apart ss
apart (Some r ∷ ss) = in_range r.provider r.quarter && (not (mentions r.provider r.quarter ss) && apart ss)

-- the holdings: what each record tells, zero where there is none
unfoldable pub records_held : {Q R : Type 0} → Measure Q R → List (Slot R) → Grid Q
records_held m [] = λ _ _. m.nothing
records_held m (None ∷ ss) = records_held m ss
records_held m (Some r ∷ ss) = put (records_held m ss) r.provider r.quarter (m.told r.row)

-- how many slots are free
abbrev pub vacancies : {Q R : Type 0} → Measure Q R → List (Slot R) → ℕ
vacancies m ss = count_by (vacant m) ss

-- what the record at a place tells: zero where there is none
abbrev pub told_by_slot : {Q R : Type 0} → Measure Q R → Slot R → Q
told_by_slot m None = m.nothing
told_by_slot m (Some r) = m.told r.row

abbrev pub told_by_place : {Q R : Type 0} → Measure Q R → List (Slot R) → Option ℕ → Q
told_by_place m ss None = m.nothing
told_by_place m ss (Some i) = told_by_slot m (slice_index_or ss i None)

-- the slots with the one at a place freed
abbrev pub released : {R : Type 0} → Option ℕ → List (Slot R) → List (Slot R)
released None ss = ss
released (Some i) ss = slice_set ss i None

-- the slot that a holding of q takes: none for zero, that of a holding that is not zero, else the first free one
unfoldable pub place_for : {Q R : Type 0} → Measure Q R → List (Slot R) → ℕ → ℕ → Q → Option ℕ
place_for m ss p t q = cond (is_zero m q) None (cond (is_zero m (records_held m ss p t)) (position (vacant m) ss) (position (keyed p t) ss))

-- the slots with q written into the slot at a place
abbrev pub written : {Q R : Type 0} → Measure Q R → ℕ → ℕ → Q → Option ℕ → List (Slot R) → List (Slot R)
written m p t q None ss = ss
written m p t q (Some i) ss = slice_set ss i (Some (record { provider = p; quarter = t; row = m.row q }))

-- the slots after the holding of p in t has become q: its record is freed, and its place written
unfoldable pub settled : {Q R : Type 0} → Measure Q R → List (Slot R) → ℕ → ℕ → Q → List (Slot R)
settled m ss p t q = written m p t q (place_for m ss p t q) (released (position (keyed p t) ss) ss)

-- the slots after a change of one holding to what the quantity's call answered, unless it is refused
abbrev pub changed_slots : {Q R : Type 0} → Measure Q R → List (Slot R) → ℕ → ℕ → Option BookRefusal → Option Q → List (Slot R)
changed_slots m ss p t (Some refusal) new = ss
changed_slots m ss p t None None = ss
changed_slots m ss p t None (Some q) = settled m ss p t q

module _ {Q R : Type 0} (m : Measure Q R) (ss : List (Slot R)) (p t : ℕ) (q : Q) where
  -- the slots after a raise and after a lowering
  unfoldable pub raised_slots : List (Slot R)
  raised_slots = changed_slots m ss p t (raise_refusal m (records_held m ss) (length ss) everything p t q) (m.joined (records_held m ss p t) q)

  unfoldable pub lowered_slots : List (Slot R)
  lowered_slots = changed_slots m ss p t (lower_refusal m (records_held m ss) (length ss) p t q) (m.remaining (records_held m ss p t) q)
