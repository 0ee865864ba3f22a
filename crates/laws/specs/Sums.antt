-- Sums in the set of a quantity.
use Rattle.std.specs.Prelude.{ℕ, zero, suc, List, [], ◌∷◌}
use Rattle.quantity.specs.Measure.{Measure}

module _ {Q R : Type 0} (m : Measure Q R) where
  -- the sum of what f says of each element
  unfoldable pub sum_of : {E : Type 0} → (E → m.Amount) → List E → m.Amount
  sum_of f [] = m.none
  sum_of f (x ∷ xs) = m.plus (f x) (sum_of f xs)

  -- the same, where f also knows the place, counted from k
  unfoldable pub sum_from : {E : Type 0} → (ℕ → E → m.Amount) → ℕ → List E → m.Amount
  sum_from f k [] = m.none
  sum_from f k (x ∷ xs) = m.plus (f k x) (sum_from f (suc k) xs)

  -- f 0 + .. + f (n - 1)
  unfoldable pub sum_below : (ℕ → m.Amount) → ℕ → m.Amount
  sum_below f zero = m.none
  sum_below f (suc n) = m.plus (f n) (sum_below f n)
