-- Slots that are all free.
use Rattle.std.proofs.Common.{◌≡◌, ℕ, zero, suc, true, List, [], ◌∷◌, ◌++◌, map, take, replicate, None, refl, arith}
use mathlib.Core.Path.{fun_ext}
use Rattle.quantity.specs.Measure.{Measure}
use Rattle.book.specs.Grid.{amounts}
use Rattle.sparse_book.specs.Records.{Slot, apart, records_held}

pub blank_apart : {R : Type 0} (ss : List (Slot R)) → apart (map {B = Slot R} (λ _. None) ss) ≡ true
unfolding apart
blank_apart [] = refl
blank_apart (s ∷ ss) = blank_apart ss

-- an empty list made longer
pub resized : {R : Type 0} (ss : List (Slot R)) → ss ≡ [] → (n k : ℕ) → take n ss ++ replicate k None ≡ replicate {A = Slot R} k None
resized ss e n k = grind arith

-- as many free slots as are asked
pub free_apart : (R : Type 0) (n : ℕ) → apart (replicate {A = Slot R} n None) ≡ true
unfolding apart
free_apart R zero = refl
free_apart R (suc n) = free_apart R n

module _ {Q R : Type 0} (m : Measure Q R) where
  pub blank_empty : (ss : List (Slot R)) → amounts m (records_held m (map {B = Slot R} (λ _. None) ss)) ≡ (λ _ _. m.none)
  unfolding amounts records_held
  blank_empty [] = fun_ext (λ p. fun_ext (λ t. m.nothing_none))
  blank_empty (s ∷ ss) = blank_empty ss

  pub free_empty : (n : ℕ) → amounts m (records_held m (replicate {A = Slot R} n None)) ≡ (λ _ _. m.none)
  unfolding records_held
  free_empty zero = blank_empty []
  free_empty (suc n) = free_empty n
