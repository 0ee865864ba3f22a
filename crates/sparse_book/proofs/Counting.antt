-- How many slots are free, and how many holdings are not zero.
use Rattle.std.proofs.Common.{◌≡◌, ℕ, ◌+◌, ◌<◌, true, List, [], ◌∷◌, length, Some, None, Option, refl, arith}
use Rattle.std.proofs.lemmas.Bool.Decides.{nat_tests}
use Rattle.std.proofs.lemmas.List.Sums.{sum_by-cons}
use Rattle.std.specs.List.{position}
use Rattle.quantity.specs.Measure.{Measure}
use Rattle.book.specs.Grid.{taken}
use Rattle.book.proofs.Counts.{taken_put, taken_none, nothing_zero}
use Rattle.sparse_book.specs.Records.{Slot, vacant, apart, records_held, vacancies}
use Rattle.sparse_book.proofs.Firsts.{position-cons}
use Rattle.sparse_book.proofs.Slots.{held_unmentioned}

module _ {Q R : Type 0} (m : Measure Q R) where
  pub free_and_taken : (ss : List (Slot R)) → apart ss ≡ true → vacancies m ss + taken m (records_held m ss) ≡ length ss
  unfolding records_held apart
  free_and_taken [] e = grind (arith, taken_none m (λ _ _. m.nothing) (λ p t. nothing_zero m))
  free_and_taken (s ∷ ss) e = rw sum_by-cons (grind (arith, nat_tests, free_and_taken ss, held_unmentioned m, nothing_zero m, taken_put m))

  -- a free slot is found exactly if there is one
  abbrev pub Vacancy : Option ℕ → ℕ → Type 0
  Vacancy None n = n ≡ 0
  Vacancy (Some i) n = 0 < n

  pub some_vacant : (ss : List (Slot R)) → Vacancy (position (vacant m) ss) (vacancies m ss)
  some_vacant [] = refl
  some_vacant (s ∷ ss) = rw (position-cons, sum_by-cons) (grind (arith, some_vacant ss))
