-- What a call of a book leaves beside its holdings.
use Rattle.std.specs.Prelude.{◌≡◌, ℕ}
use Rattle.book.specs.Admissions.{Admission}

-- a book changes in its holdings alone: its places, what it admits and its layer number stay
pub record ChangesHoldings {B Q : Type 0} (places : B → ℕ) (admission : B → ℕ → ℕ → Q → Admission) (layer : B → ℕ) (old new : B) : Type 0 where
  pub places_stay : places new ≡ places old
  pub admission_stays : admission new ≡ admission old
  pub layer_stays : layer new ≡ layer old
