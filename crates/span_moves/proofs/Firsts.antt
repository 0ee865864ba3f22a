-- The first refusal among the quarters of a span.
use Rattle.std.proofs.Common.{◌≡◌, ℕ, zero, suc, ◌+◌, ◌<◌, ◌≤◌, Some, None, true, is_some, Option, refl, ⊎_elim, arith}
use Rattle.std.proofs.lemmas.Bool.{cases_eq}
use Rattle.quantity.specs.Measure.{Measure}
use Rattle.book.specs.Grid.{Grid}
use Rattle.refusals.specs.declared.refusal.Refusal.{Refusal}
use Rattle.span_moves.specs.declared.change.Change.{Change}
use Rattle.span_moves.specs.Spans.{next, first_of, unfit, count}

-- nothing is refused in the quarters from lo on and before hi
abbrev pub Clear : (ℕ → Option Refusal) → ℕ → ℕ → Type 0
Clear f lo hi = (k : ℕ) → lo ≤ k → k < hi → f k ≡ None

module _ (f : ℕ → Option Refusal) where
  pub first_of-hit : (lo n t : ℕ) (e : Refusal) → lo ≤ t → t < lo + n → Clear f lo t → f t ≡ Some e → first_of f lo n ≡ Some e
  unfolding first_of
  first_of-hit lo zero t e l h c i = absurd (omega arith)
  first_of-hit lo (suc n) t e l h c i = ⊎_elim (λ (k : lo ≡ t). grind arith) (λ (k : lo ≡ t → ⊥). rw (c lo (omega arith) (omega arith), first_of-hit (lo + 1) n t e (omega arith) (omega arith) (λ x a. c x (omega arith)) i)) (cases_eq lo t)

  pub first_of-clear : (lo n : ℕ) → Clear f lo (lo + n) → first_of f lo n ≡ None
  unfolding first_of
  first_of-clear lo zero c = refl
  first_of-clear lo (suc n) c = grind (arith, first_of-clear (lo + 1) n, c lo)

  pub clear_from : (lo n k : ℕ) → first_of f lo n ≡ None → lo ≤ k → k < lo + n → f k ≡ None
  unfolding first_of
  clear_from lo zero k e l h = absurd (omega arith)
  clear_from lo (suc n) k e l h = grind (arith, clear_from (lo + 1) n k)

-- where no quarter is unfit, every holding of the span becomes something
pub all_fit : {Q R : Type 0} (m : Measure Q R) (held : Grid Q) (change : Change) (p first last : ℕ) (q : Q) → first_of (unfit m held change p q) first (count first last) ≡ None → (t : ℕ) → first ≤ t → t ≤ last → is_some (next m change (held p t) q) ≡ true
all_fit m held change p first last q e t l h = grind (arith, clear_from (unfit m held change p q) first (count first last) t e)
