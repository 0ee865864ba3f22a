-- Free places counted step by step.
use Rattle.std.proofs.Common.{◌≡◌, ℕ, zero, suc, ◌+◌, ◌-◌, ◌≤◌, Bool, true, is_some, Some, None, Option, refl, arith}
use Rattle.span_moves.specs.Spans.{step_left, then_left, left}

module _ (was will : ℕ → Bool) (free : Option ℕ) (lo : ℕ) where
  pub left_start : (n : ℕ) → n ≡ 0 → left was will free lo n ≡ free
  unfolding left
  left_start n e = rw e refl

  pub left_next : (t : ℕ) → lo ≤ t → left was will free lo (t + 1 - lo) ≡ then_left (was t) (will t) (left was will free lo (t - lo))
  unfolding left
  left_next t l = rw (let n : t + 1 - lo ≡ suc (t - lo) = omega arith in n, let k : lo + (t - lo) ≡ t = omega arith in k) refl

  -- where a place is wanting in a quarter, it is wanting in the whole span
  left_gone : (n k : ℕ) → left was will free lo n ≡ None → left was will free lo (n + k) ≡ None
  unfolding left
  left_gone n zero e = grind arith
  left_gone n (suc k) e = rw (let w : n + suc k ≡ suc (n + k) = omega arith in w) (rw (left_gone n k e) refl)

  pub left_wanting : (t hi : ℕ) → lo ≤ t → t ≤ hi → left was will free lo (t - lo) ≡ None → left was will free lo (hi - lo) ≡ None
  left_wanting t hi l h e = rw (let w : hi - lo ≡ (t - lo) + (hi - t) = omega arith in w) (left_gone (t - lo) (hi - t) e)

  pub left_before : (t hi : ℕ) → lo ≤ t → t ≤ hi → is_some (left was will free lo (hi - lo)) ≡ true → is_some (left was will free lo (t - lo)) ≡ true
  left_before t hi l h e = grind (arith, left_wanting t hi l h)

-- a count never passes what was free by more than the steps
step_left_le : (a b : Bool) (f n : ℕ) → f ≤ n → (r : ℕ) → step_left a b f ≡ Some r → r ≤ n + 1
step_left_le a b zero n u r e = grind arith
step_left_le a b (suc f) n u r e = grind arith

pub left_le : (was will : ℕ → Bool) (free lo n f : ℕ) → left was will (Some free) lo n ≡ Some f → f ≤ free + n
unfolding left
left_le was will free lo zero f e = grind arith
left_le was will free lo (suc n) f e = grind (arith, left_le was will free lo n, step_left_le)

pub left_none : (was will : ℕ → Bool) (lo n : ℕ) → left was will None lo n ≡ None
unfolding left
left_none was will lo zero = refl
left_none was will lo (suc n) = rw (left_none was will lo n) refl
