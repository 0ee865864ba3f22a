-- How many holdings are not zero.
use Rattle.std.proofs.Common.{◌≡◌, ℕ, zero, suc, ◌+◌, ◌*◌, ◌<◌, ◌≤◌, true, cond, refl, suc-mul, add-one, arith}
use Rattle.std.proofs.lemmas.Bool.Decides.{nat_tests}
use Rattle.quantity.specs.Measure.{Measure, is_zero}
use Rattle.book.specs.Grid.{Grid, put, total, filled, taken}

pub total_none : (f : ℕ → ℕ) → total f 0 ≡ 0
unfolding total
total_none f = refl

pub total_more : (f : ℕ → ℕ) (n : ℕ) → total f (n + 1) ≡ total f n + f n
unfolding total
total_more f n = rw add-one refl

pub total_zeros : (f : ℕ → ℕ) → ((k : ℕ) → f k ≡ 0) → (n : ℕ) → total f n ≡ 0
unfolding total
total_zeros f z zero = refl
total_zeros f z (suc n) = omega (arith, total_zeros f z n, z n)

pub total_alike : (f g : ℕ → ℕ) (n : ℕ) → ((k : ℕ) → k < n → f k ≡ g k) → total f n ≡ total g n
unfolding total
total_alike f g zero e = refl
total_alike f g (suc n) e = omega (arith, total_alike f g n (λ k h. e k (omega arith)), e n (omega arith))

module _ (f : ℕ → ℕ) (c : ℕ) (cap : (k : ℕ) → f k ≤ c) where
  pub total_cap : (n : ℕ) → total f n ≤ n * c
  unfolding total
  total_cap zero = omega arith
  total_cap (suc n) = rw suc-mul (omega (arith, total_cap n, cap n))

  pub total_short : (i : ℕ) → f i < c → (n : ℕ) → i < n → total f n < n * c
  unfolding total
  total_short i less zero l = absurd (omega arith)
  total_short i less (suc n) l = rw suc-mul (grind (arith, total_cap n, total_short i less n, cap n))

-- two functions that agree but at i: their totals differ as they do there
pub total_put : (f g : ℕ → ℕ) (i : ℕ) → ((k : ℕ) → (k ≡ i → ⊥) → f k ≡ g k) → (n : ℕ) → i < n → total f n + g i ≡ total g n + f i
unfolding total
total_put f g i e zero l = absurd (omega arith)
total_put f g i e (suc n) l = grind (arith, total_alike f g n, total_put f g i e n, e)

pub nothing_zero : {Q R : Type 0} (m : Measure Q R) → is_zero m m.nothing ≡ true
nothing_zero m = m.same_alike m.nothing m.nothing refl

module _ {Q R : Type 0} (m : Measure Q R) (held : Grid Q) where
  filled_cap : (p t : ℕ) → filled m held p t ≤ 1
  filled_cap p t = grind arith

  -- with a zero holding in the range not all of its 3,200 are taken
  pub taken_short : (p t : ℕ) → p < 32 → t < 100 → is_zero m (held p t) ≡ true → taken m held < 3200
  unfolding taken
  taken_short p t hp ht e =
      total_short (λ x. total (filled m held x) 100) 100 (λ x. total_cap (filled m held x) 1 (filled_cap x) 100) p
      (total_short (filled m held p) 1 (filled_cap p) t (grind arith) 100 ht) 32 hp

  -- where every holding is zero none is taken
  pub taken_none : ((p t : ℕ) → is_zero m (held p t) ≡ true) → taken m held ≡ 0
  unfolding taken
  taken_none z = total_zeros (λ p. total (filled m held p) 100) (λ p. total_zeros (filled m held p) (λ t. grind (arith, z p t)) 100) 32

  -- the count is that of each provider's holdings
  pub taken_is : taken m held ≡ total (λ p. total (filled m held p) 100) 32
  unfolding taken
  taken_is = refl

  -- one holding written: the count changes by that one
  pub taken_put : (p t : ℕ) → p < 32 → t < 100 → (q : Q) → taken m (put held p t q) + filled m held p t ≡ taken m held + cond (is_zero m q) 0 1
  unfolding taken put
  taken_put p t hp ht q =
      let here : filled m (put held p t q) p t ≡ cond (is_zero m q) 0 1 = grind (arith, nat_tests) in
      omega (
        arith,
        total_put (λ x. total (filled m (put held p t q) x) 100) (λ x. total (filled m held x) 100) p (λ x n. total_alike (filled m (put held p t q) x) (filled m held x) 100 (λ u _. other x u (λ i _. n i))) 32 hp,
        total_put (filled m (put held p t q) p) (filled m held p) t (λ u n. other p u (λ _ j. n j)) 100 ht,
      )
    where
      other : (x u : ℕ) → (x ≡ p → u ≡ t → ⊥) → filled m (put held p t q) x u ≡ filled m held x u
      other x u n = grind (arith, nat_tests)
