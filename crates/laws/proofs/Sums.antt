-- Sums in the set of a quantity: rearranged, element by element, and over providers.
use Rattle.std.proofs.Common.{◌≡◌, ℕ, zero, suc, ◌+◌, ◌<◌, ◌≤◌, Bool, cond, ◌&&◌, eqb, List, [], ◌∷◌, ◌++◌, length, set, Some, sym, refl, ◌∙◌, arith}
use Rattle.std.specs.List.{slice_get}
use Rattle.std.proofs.lemmas.Bool.Decides.{nat_tests}
use Rattle.std.proofs.lemmas.Option.{none-some}
use Rattle.quantity.specs.Measure.{Measure}
use Rattle.laws.specs.Sums.{sum_from, sum_below}

module _ {Q R : Type 0} (m : Measure Q R) where
  pub neutral_right : (a : m.Amount) → m.plus a m.none ≡ a
  neutral_right a = m.commutes a m.none ∙ m.neutral a

  -- a + (b + c) = b + (a + c)
  pub past : (a b c : m.Amount) → m.plus a (m.plus b c) ≡ m.plus b (m.plus a c)
  past a b c = cc (m.groups a b c, m.commutes a b, m.groups b a c)

  -- (a + b) + (c + d) = (a + c) + (b + d)
  pub swap4 : (a b c d : m.Amount) → m.plus (m.plus a b) (m.plus c d) ≡ m.plus (m.plus a c) (m.plus b d)
  swap4 a b c d = cc (m.groups a b (m.plus c d), past b c d, m.groups a c (m.plus b d))

  pub cancels_right : (a b c : m.Amount) → m.plus a c ≡ m.plus b c → a ≡ b
  cancels_right a b c e = m.cancels c a b (cc (m.commutes c a, m.commutes b c))

  -- sums over a list, place by place
  module _ {E : Type 0} (f g : ℕ → E → m.Amount) where
    pub sum_alike : (k : ℕ) (xs : List E) → ((j : ℕ) (z : E) → k ≤ j → g j z ≡ f j z) → sum_from m g k xs ≡ sum_from m f k xs
    unfolding sum_from
    sum_alike k [] e = refl
    sum_alike k (x ∷ xs) e = cc (e k x (omega arith), sum_alike (suc k) xs (λ j z h. e j z (omega arith)))

    module _ (place : ℕ) (others : (j : ℕ) (z : E) → (j ≡ place → ⊥) → g j z ≡ f j z) where
      -- one element is another one, which counts alike there
      pub sum_changed : (i k : ℕ) → place ≡ k + i → (xs : List E) (x y : E) → slice_get xs i ≡ Some x → g place y ≡ f place x → sum_from m g k (set xs i y) ≡ sum_from m f k xs
      unfolding sum_from
      sum_changed i k p [] x y there here = absurd (none-some x there)
      sum_changed zero k p (z ∷ zs) x y there here = grind (arith, sum_alike (suc k) zs (λ j w h. others j w (λ q. omega arith)))
      sum_changed (suc i) k p (z ∷ zs) x y there here = grind (arith, others k z, sum_changed i (suc k) (omega arith) zs x y there here)

      -- one element more, which counts nothing
      pub sum_added : (k : ℕ) (xs : List E) → place ≡ k + length xs → (y : E) → g place y ≡ m.none → sum_from m g k (xs ++ (y ∷ [])) ≡ sum_from m f k xs
      unfolding sum_from
      sum_added k [] p y here = grind (arith, m.neutral m.none)
      sum_added k (x ∷ xs) p y here = grind (arith, others k x, sum_added (suc k) xs (omega arith) y here)

  -- sums over the providers below n
  pub below_alike : (f g : ℕ → m.Amount) (n : ℕ) → ((k : ℕ) → k < n → f k ≡ g k) → sum_below m f n ≡ sum_below m g n
  unfolding sum_below
  below_alike f g zero e = refl
  below_alike f g (suc n) e = cc (e n (omega arith), below_alike f g n (λ k h. e k (omega arith)))

  pub below_plus : (f g : ℕ → m.Amount) (n : ℕ) → sum_below m (λ k. m.plus (f k) (g k)) n ≡ m.plus (sum_below m f n) (sum_below m g n)
  unfolding sum_below
  below_plus f g zero = sym (m.neutral m.none)
  below_plus f g (suc n) = cc (below_plus f g n, swap4 (f n) (g n) (sum_below m f n) (sum_below m g n))

  pub below_none : (n : ℕ) → sum_below m (λ k. m.none) n ≡ m.none
  unfolding sum_below
  below_none zero = refl
  below_none (suc n) = m.neutral (sum_below m (λ k. m.none) n) ∙ below_none n

  -- what one provider p has, and the others do not
  abbrev pub only : ℕ → Bool → m.Amount → ℕ → m.Amount
  only p b a k = cond (eqb k p && b) a m.none

  below_else : (p : ℕ) (b : Bool) (a : m.Amount) (n : ℕ) → n ≤ p → sum_below m (only p b a) n ≡ m.none
  unfolding sum_below
  below_else p b a zero h = refl
  below_else p b a (suc n) h = grind (arith, nat_tests, below_else p b a n (omega arith), m.neutral m.none)

  pub below_one : (p : ℕ) (b : Bool) (a : m.Amount) (n : ℕ) → p < n → sum_below m (only p b a) n ≡ cond b a m.none
  unfolding sum_below
  below_one p b a zero h = absurd (omega arith)
  below_one p b a (suc n) h = grind (arith, nat_tests, below_else p b a n, below_one p b a n, m.neutral, neutral_right)
