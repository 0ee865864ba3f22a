-- How many numbers of a range a test holds of.
use Rattle.std.proofs.Common.{◌≡◌, ℕ, zero, suc, ◌+◌, ◌<◌, Bool, cond, not, arith}
use Rattle.std.proofs.lemmas.List.{map-id}
use Rattle.std.proofs.lemmas.List.FromFn.{sum_by-map-range_with_len_more}
use Rattle.std.proofs.lemmas.List.Sums.{sum_by-cons}
use Rattle.std.specs.List.{count_by, range_with_len}
use Rattle.quantity.specs.Measure.{Measure, is_zero}
use Rattle.book.specs.Grid.{Grid, total, filled}
use Rattle.book.specs.Calls.{held_at}
use Rattle.std.proofs.lemmas.Bool.Decides.{nat_tests}
use Rattle.book.proofs.Counts.{total_none, total_more}

counted : (test : ℕ → Bool) (f : ℕ → ℕ) (a n : ℕ) → ((k : ℕ) → k < a + n → f k ≡ cond (test k) 1 0) → count_by test (range_with_len a n) + total f a ≡ total f (a + n)
counted test f a zero same = grind arith
counted test f a (suc n) same = rw sum_by-cons (grind (arith, counted test f (a + 1) n, total_more f a, same a))

-- the holdings of a provider that are not zero
pub count_filled : {Q R : Type 0} (m : Measure Q R) (held : Grid Q) (p : ℕ) → p < 32 → count_by (λ t. not (is_zero m (held_at m held p t))) (range_with_len 0 100) ≡ total (filled m held p) 100
count_filled m held p hp = grind (arith, nat_tests, total_none (filled m held p), counted (λ t. not (is_zero m (held_at m held p t))) (filled m held p) 0 100)

-- one number more
pub count_more : (test : ℕ → Bool) (n : ℕ) → count_by test (range_with_len 0 (n + 1)) ≡ count_by test (range_with_len 0 n) + cond (test n) 1 0
count_more test n = rw (map-id (range_with_len 0 (n + 1)), map-id (range_with_len 0 n)) at (sum_by-map-range_with_len_more (λ t. cond (test t) 1 0) (λ x. x) 0 n n (omega arith))
