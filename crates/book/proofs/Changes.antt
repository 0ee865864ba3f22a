-- What raising and lowering answer and change, by what the quantity's call answered.
use Rattle.std.proofs.Common.{◌≡◌, ℕ, true, Some, None, Option, sym, refl, ap, ◌∙◌, arith}
use mathlib.Core.Path.{fun_ext}
use Rattle.std.proofs.lemmas.Bool.{cond-true}
use Rattle.quantity.specs.Measure.{Measure}
use Rattle.book.specs.Grid.{Grid, in_range, put, amounts}
use Rattle.book.specs.Calls.{held_at, everything, changed, change_refusal, raise_refusal, lower_refusal, raised, lowered}
use Rattle.book.specs.Admissions.{Admission}
use Rattle.book.specs.declared.answers.Cause.{Cause}
use Rattle.book.specs.declared.answers.BookRefusal.{BookRefusal}
use Rattle.book.specs.declared.answers.BookRefusal.TheVariants.{NoRemainder, SumDoesNotFit, NotAdmitted}

-- the amounts of a table with one holding written
pub amounts_put : {Q R : Type 0} (m : Measure Q R) (g : Grid Q) (p t : ℕ) (q : Q) → amounts m (put g p t q) ≡ put (amounts m g) p t (m.amount q)
unfolding amounts put
amounts_put m g p t q = fun_ext (λ x. fun_ext (λ u. grind arith))

-- a raise is the change to the sum
pub raised_is : {Q R : Type 0} (m : Measure Q R) (held : Grid Q) (places : ℕ) (p t : ℕ) (q : Q) (admission : ℕ → ℕ → Q → Admission) → raised m held places admission p t q ≡ changed m held p t (raise_refusal m held places admission p t q) (m.joined (held p t) q)
unfolding raised raise_refusal
raised_is m held places p t q admission = grind (arith, m.joins (held p t) q)

-- inside the range
module _ {Q R : Type 0} (m : Measure Q R) (held : Grid Q) (places : ℕ) (p t : ℕ) (q : Q) (inside : in_range p t ≡ true) where
  -- a raise, by its sum
  pub raise_no_sum : (admission : ℕ → ℕ → Q → Admission) → m.joined (held p t) q ≡ None → raise_refusal m held places admission p t q ≡ Some SumDoesNotFit
  unfolding raise_refusal
  raise_no_sum admission e = grind arith

  module _ (sum : Q) (is : m.joined (held p t) q ≡ Some sum) where
    pub raise_barred : (admission : ℕ → ℕ → Q → Admission) (cause : Cause) → admission p t sum ≡ Some cause → raise_refusal m held places admission p t q ≡ Some (NotAdmitted cause)
    unfolding raise_refusal
    raise_barred admission cause e = grind arith

    -- two books that say the same of the sum answer alike
    pub raise_same : (a b : ℕ → ℕ → Q → Admission) → a p t sum ≡ b p t sum → raise_refusal m held places a p t q ≡ raise_refusal m held places b p t q
    unfolding raise_refusal
    raise_same a b e = grind arith

    pub raised_same : (a b : ℕ → ℕ → Q → Admission) → a p t sum ≡ b p t sum → raised m held places a p t q ≡ raised m held places b p t q
    unfolding raised
    raised_same a b e = rw (raise_same a b e) refl

  -- a change to the sum or the remainder is what is asked
  module _ (new : Option Q) (refusal : Option BookRefusal) where
    here : held_at m held p t ≡ held p t
    here = cond-true (in_range p t) (held p t) m.nothing inside

    pub raise_answer : (admission : ℕ → ℕ → Q → Admission) → new ≡ m.joined (held_at m held p t) q → refusal ≡ change_refusal m held places SumDoesNotFit (admission p t) p t new → refusal ≡ raise_refusal m held places admission p t q
    unfolding raise_refusal
    raise_answer admission e h = grind arith

    pub lower_answer : new ≡ m.remaining (held_at m held p t) q → refusal ≡ change_refusal m held places NoRemainder (everything p t) p t new → refusal ≡ lower_refusal m held places p t q
    unfolding lower_refusal
    lower_answer e h = grind arith

    pub raise_after : (admission : ℕ → ℕ → Q → Admission) → new ≡ m.joined (held_at m held p t) q → refusal ≡ change_refusal m held places SumDoesNotFit (admission p t) p t new → changed m held p t refusal new ≡ raised m held places admission p t q
    raise_after admission e h =
        ap (λ r. changed m held p t r new) (raise_answer admission e h)
        ∙ (ap (changed m held p t (raise_refusal m held places admission p t q)) (e ∙ ap (λ x. m.joined x q) here) ∙ sym (raised_is m held places p t q admission))

    pub lower_after : new ≡ m.remaining (held_at m held p t) q → refusal ≡ change_refusal m held places NoRemainder (everything p t) p t new → changed m held p t refusal new ≡ lowered m held places p t q
    unfolding lowered
    lower_after e h = ap (λ r. changed m held p t r new) (lower_answer e h) ∙ ap (changed m held p t (lower_refusal m held places p t q)) (e ∙ ap (λ x. m.remaining x q) here)
