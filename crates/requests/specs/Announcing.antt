-- What an announcement answers and what it makes of the list.
use Rattle.std.specs.Prelude.{ℕ, min, Bool, cond, List, [], ◌∷◌, ◌++◌, length, Some, None, Option, nat_lt, slice_set}
use Rattle.std.specs.List.{slice_get, position}
use Rattle.std.specs.Option.{unwrap_or}
use Rattle.quantity.specs.Measure.{Measure}
use Rattle.refusals.specs.declared.refusal.Refusal.{Refusal}
use Rattle.refusals.specs.declared.refusal.Refusal.TheVariants.{NoRequestToChange, NoPlaceInList}
use Rattle.requests.specs.declared.request.Side.{Side}
use Rattle.requests.specs.declared.request.Status.TheVariants.{WaitingForCounterpart}
use Rattle.refusals.specs.declared.passage.Passage.{Passage}
use Rattle.requests.specs.declared.request.Request.{Request}
use Rattle.requests.specs.declared.finding.Joining.{Joining}
use Rattle.requests.specs.declared.finding.Joining.TheVariants.{Unresolved, NotBalanced}
use Rattle.requests.specs.Requests.{matching, spoken}

-- the list with one of its elements changed
abbrev pub changed_of : {E : Type 0} → (E → E) → List E → ℕ → Option E → List E
changed_of f xs i None = xs
changed_of f xs i (Some x) = slice_set xs i (f x)

abbrev pub changed_at : {E : Type 0} → (E → E) → List E → ℕ → List E
changed_at f xs i = changed_of f xs i (slice_get xs i)

-- a request in which nobody has announced yet
abbrev pub unspoken : {R : Type 0} → Passage → Request R
unspoken passage = record { passage = passage; giving = None; taking = None; status = WaitingForCounterpart }

-- whether there is a place that was never used: of those lent, at most 4,096
abbrev pub has_place : {E : Type 0} → List E → ℕ → Bool
has_place xs places = nat_lt (length xs) (min places 4096)

abbrev pub addition_refusal : {E : Type 0} → List E → ℕ → Option Refusal
addition_refusal xs places = cond (has_place xs places) None (Some NoPlaceInList)

abbrev pub added : {E : Type 0} → List E → ℕ → E → List E
added xs places x = cond (has_place xs places) (xs ++ (x ∷ [])) xs

-- why there is no request to join or to make: by the place of the one to join
abbrev pub refusal_of : {E : Type 0} → Joining → List E → ℕ → Option ℕ → Option Refusal
refusal_of joining xs places (Some place) = None
refusal_of Unresolved xs places None = addition_refusal xs places
refusal_of NotBalanced xs places None = Some NoRequestToChange

-- the list after the announcement, by the place of the request to join
abbrev pub list_of : {E : Type 0} → Joining → List E → ℕ → (E → E) → E → Option ℕ → List E
list_of joining xs places change new (Some place) = changed_at change xs place
list_of Unresolved xs places change new None = added xs places new
list_of NotBalanced xs places change new None = xs

module _ {R : Type 0} (joining : Joining) (xs : List (Request R)) where
  unfoldable pub announcement_refusal : ℕ → Passage → Option Refusal
  announcement_refusal places passage = refusal_of joining xs places (position (matching joining passage) xs)

  -- the request that is joined, or the next place
  unfoldable pub announcement_place : Passage → ℕ
  announcement_place passage = unwrap_or (position (matching joining passage) xs) (length xs)

unfoldable pub announcement_list : {Q R : Type 0} (m : Measure Q R) → Joining → List (Request R) → ℕ → Side → Passage → Q → List (Request R)
announcement_list m joining xs places side passage q =
    list_of joining xs places (spoken m side (m.row q)) (spoken m side (m.row q) (unspoken passage)) (position (matching joining passage) xs)
