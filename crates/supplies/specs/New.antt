-- What a new book is.
use Rattle.std.specs.Prelude.{◌≡◌, ℕ}
use Rattle.quantity.specs.Measure.{Measure}
use Rattle.book.specs.Admissions.{Admission}
use Rattle.book.specs.Grid.{Grid, amounts}

-- every holding is zero, and the book has these places, this admission and this layer number
pub record NewBookOf {B Q R : Type 0} (m : Measure Q R) (holdings : B → Grid Q) (places : B → ℕ) (admission : B → ℕ → ℕ → Q → Admission) (layer : B → ℕ)
    (size : ℕ) (admits : ℕ → ℕ → Q → Admission) (number : ℕ) (b : B) : Type 0 where
  pub empty : amounts m (holdings b) ≡ (λ _ _. m.none)
  pub has_size : places b ≡ size
  pub has_admission : admission b ≡ admits
  pub has_number : layer b ≡ number
