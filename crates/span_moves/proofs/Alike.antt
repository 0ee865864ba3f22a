-- Values of one amount are treated alike.
use Rattle.std.proofs.Common.{◌≡◌, ℕ, true, is_some, Some, None, Option, sym, refl, ap, subst, arith}
use mathlib.Core.Path.{fun_ext}
use Rattle.std.proofs.lemmas.Bool.{true≢false}
use Rattle.quantity.specs.Measure.{Measure, Sum, Rest, is_zero}
use Rattle.book.specs.Grid.{Grid, amounts, total, filled, taken}
use Rattle.book.specs.Admissions.{Admission}
use Rattle.book.proofs.Counts.{total_alike, taken_is}
use Rattle.span_moves.specs.declared.change.Change.{Change}
use Rattle.span_moves.specs.declared.change.Change.TheVariants.{Lowering, Raising}
use Rattle.span_moves.specs.Spans.{next, first_of, left_after, becomes, unfit, barred_sum, unadmitted}
use Rattle.span_moves.specs.Moves.{free_places}

pub some_from : {A : Type 0} (o : Option A) → is_some o ≡ true → (x : A) × (o ≡ Some x)
some_from None e = absurd (true≢false (sym e))
some_from (Some x) e = (x, refl)

module _ {Q R : Type 0} (m : Measure Q R) where
  pub zero_alike : (a b : Q) → m.amount a ≡ m.amount b → is_zero m a ≡ is_zero m b
  zero_alike a b e = grind (arith, m.same_alike a m.nothing, m.alike_same a m.nothing, m.same_alike b m.nothing, m.alike_same b m.nothing)

  pub taken_alike : (g h : Grid Q) → amounts m g ≡ amounts m h → taken m g ≡ taken m h
  unfolding amounts
  taken_alike g h e =
      rw (taken_is m g, taken_is m h) (total_alike (λ p. total (filled m g p) 100) (λ p. total (filled m h p) 100) 32 (λ p _. total_alike (filled m g p) (filled m h p) 100 (λ t _. rw (zero_alike (g p t) (h p t) (ap (λ f. f p t) e)) refl)))

  -- two answers: both none, or values of one amount
  abbrev pub Same : Option Q → Option Q → Type 0
  Same None None = Unit {0}
  Same None (Some d) = ⊥
  Same (Some c) None = ⊥
  Same (Some c) (Some d) = m.amount c ≡ m.amount d

  pub next_same : (a b q r : Q) → m.amount a ≡ m.amount b → m.amount q ≡ m.amount r → (change : Change) → Same (next m change a q) (next m change b r)
  next_same a b q r e f Lowering = grind (arith, m.remains a q, m.remains b r, m.fitting, m.cancels (m.amount q))
  next_same a b q r e f Raising = grind (arith, m.joins a q, m.joins b r, m.fitting)

  pub next_alike : (change : Change) (a b q r d : Q) → m.amount a ≡ m.amount b → m.amount q ≡ m.amount r → next m change b r ≡ Some d → (c : Q) × (next m change a q ≡ Some c) × (m.amount c ≡ m.amount d)
  next_alike change a b q r d e f h = grind (arith, next_same a b q r e f change)

  -- what the next holding is to the present one
  abbrev pub Next : Change → Q → Q → Q → Type 0
  Next Lowering a q d = m.plus (m.amount q) (m.amount d) ≡ m.amount a
  Next Raising a q d = m.amount d ≡ m.plus (m.amount a) (m.amount q)

  pub next_is : (change : Change) (a q d : Q) → next m change a q ≡ Some d → Next change a q d
  next_is Lowering a q d e = subst (Rest m.plus m.Fits m.amount a q) e (m.remains a q)
  next_is Raising a q d e = subst (Sum m.plus m.Fits m.amount a q) e (m.joins a q)

-- two rows of holdings, and two quantities, of the same amounts
module _ {Q R : Type 0} (m : Measure Q R) (held other : Grid Q) (p : ℕ) (q r : Q) (row : (t : ℕ) → m.amount (other p t) ≡ m.amount (held p t)) (f : m.amount r ≡ m.amount q) where
  pub unfit_row : (change : Change) (lo n : ℕ) → first_of (unfit m other change p r) lo n ≡ first_of (unfit m held change p q) lo n
  unfit_row change lo n = ap (λ g. first_of g lo n) (fun_ext (λ t. grind (arith, next_same m (other p t) (held p t) r q (row t) f change)))

  pub became_row : (change : Change) (t : ℕ) → m.amount (becomes m other change p r t) ≡ m.amount (becomes m held change p q t)
  became_row change t = grind (arith, row t, next_same m (other p t) (held p t) r q (row t) f change)

  pub left_row : (change : Change) (free : Option ℕ) (lo n : ℕ) → left_after m other change p r free lo n ≡ left_after m held change p q free lo n
  left_row change free lo n =
      rw (fun_ext (λ t. zero_alike m (other p t) (held p t) (row t)), fun_ext (λ t. zero_alike m (becomes m other change p r t) (becomes m held change p q t) (became_row change t))) refl

  -- where all values of the sum are admitted alike, so are the raises
  module _ (admission : ℕ → ℕ → Q → Admission) (t : ℕ) where
    abbrev Fair : Option Q → Type 0
    Fair None = Unit {0}
    Fair (Some s) = (v : Q) → m.amount v ≡ m.amount s → admission p t v ≡ admission p t s

    barred_same : (o sum : Option Q) → Same m o sum → Fair sum → barred_sum (admission p t) p t o ≡ barred_sum (admission p t) p t sum
    barred_same None None s h = refl
    barred_same None (Some d) s h = absurd s
    barred_same (Some c) None s h = absurd s
    barred_same (Some c) (Some d) s h = rw (h c s) refl

    pub barred_row : (sum : Option Q) → m.joined (held p t) q ≡ sum → Fair sum → unadmitted m other admission p r t ≡ barred_sum (admission p t) p t sum
    barred_row sum e h = barred_same (m.joined (other p t) r) sum (subst (Same m (m.joined (other p t) r)) e (next_same m (other p t) (held p t) r q (row t) f Raising)) h

-- holdings of the same amounts
module _ {Q R : Type 0} (m : Measure Q R) (held other : Grid Q) (e : amounts m other ≡ amounts m held) where
  pub rows : (p t : ℕ) → m.amount (other p t) ≡ m.amount (held p t)
  unfolding amounts
  rows p t = ap (λ g. g p t) e

  pub free_alike : (places : ℕ) (admission : ℕ → ℕ → Q → Admission) → free_places m other places admission ≡ free_places m held places admission
  free_alike places admission = rw (taken_alike m other held e) refl

  module _ (q r : Q) (f : m.amount r ≡ m.amount q) (change : Change) (p : ℕ) where
    pub both_next : (t : ℕ) → Same m (next m change (other p t) r) (next m change (held p t) q)
    both_next t = next_same m (other p t) (held p t) r q (rows p t) f change

    pub fits_alike : (lo n : ℕ) → first_of (unfit m other change p r) lo n ≡ first_of (unfit m held change p q) lo n
    fits_alike lo n = unfit_row m held other p q r (rows p) f change lo n

    pub lefts_alike : (free : Option ℕ) (lo n : ℕ) → left_after m other change p r free lo n ≡ left_after m held change p q free lo n
    lefts_alike free lo n = left_row m held other p q r (rows p) f change free lo n
