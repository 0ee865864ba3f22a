-- One quarter of a span that is ready to be changed.
use Rattle.std.proofs.Common.{◌≡◌, ℕ, ◌+◌, ◌-◌, ◌<◌, ◌≤◌, Bool, true, false, cond, not, ◌&&◌, leb, is_some, Some, sym, refl, ap, ◌∙◌, arith}
use Rattle.std.proofs.lemmas.Bool.Decides.{nat_tests}
use Rattle.quantity.specs.Measure.{Measure, is_zero}
use Rattle.book.specs.Grid.{Grid, in_range, put, amounts, taken, filled}
use Rattle.book.specs.Calls.{full, lowered, lower_refusal, raise_refusal}
use Rattle.book.specs.Admissions.{Admission}
use Rattle.book.proofs.Grids.{range_from}
use Rattle.book.proofs.Counts.{taken_put}
use Rattle.book.proofs.Changes.{raised_is, amounts_put}
use Rattle.span_moves.specs.declared.change.Change.{Change}
use Rattle.span_moves.specs.declared.change.Change.TheVariants.{Lowering, Raising}
use Rattle.span_moves.specs.Spans.{next, step_left, becomes, spanned, left_after}
use Rattle.span_moves.specs.Ready.{changed_one, Welcome, Ready}
use Rattle.span_moves.proofs.Lefts.{left_next, left_before}
use Rattle.span_moves.proofs.Alike.{zero_alike, next_same, taken_alike}
use Rattle.span_moves.proofs.Spanned.{spanned-later, put-spanned}

-- where a step finds a place, the count follows the holdings that are not zero
count_step : (a b : Bool) (places before after n : ℕ) → before ≤ places → n ≡ places - before → after + cond a 0 1 ≡ before + cond b 0 1 → is_some (step_left a b n) ≡ true → (step_left a b n ≡ Some (places - after)) × (after ≤ places)
count_step a b places before after n l e h s = grind arith

-- and the book has one
room_step : (a b : Bool) (places before n : ℕ) → before ≤ places → n ≡ places - before → is_some (step_left a b n) ≡ true → (a && (not b && leb places before)) ≡ false
room_step a b places before n l e s = grind (arith, nat_tests)

-- a change to c that has a place
module _ {Q R : Type 0} (m : Measure Q R) (held : Grid Q) (places : ℕ) (admission : ℕ → ℕ → Q → Admission) (p t : ℕ) (q c : Q) (inside : in_range p t ≡ true) (roomy : full m held places p t c ≡ false) where
  changed_one-is : (held0 : Grid Q) (change : Change) → Welcome m held0 places admission change p q t → m.amount (held p t) ≡ m.amount (held0 p t) → next m change (held p t) q ≡ Some c → changed_one m held places admission change p t q ≡ put (amounts m held) p t (m.amount c)
  unfolding lowered lower_refusal raise_refusal
  changed_one-is held0 Lowering w k e = grind arith
  changed_one-is held0 Raising w k e = rw (raised_is m held places p t q admission) (grind (arith, w (held p t) k))

-- the quarters from lo on and before t are changed
pub record Stepped {Q R : Type 0} (m : Measure Q R) (held0 : Grid Q) (places : ℕ) (change : Change) (p lo : ℕ) (q : Q) (t : ℕ) (held : Grid Q) : Type 0 where
  pub so_far : amounts m held ≡ spanned m held0 change p q lo t
  pub left_is : left_after m held0 change p q (Some (places - taken m held0)) lo (t - lo) ≡ Some (places - taken m held)
  pub bound : taken m held ≤ places

module _ {Q R : Type 0} (m : Measure Q R) (held0 : Grid Q) (places : ℕ) (admission : ℕ → ℕ → Q → Admission) (change : Change) (p lo last : ℕ) (q : Q) (provider : p < 32) (end : last < 100) (ready : Ready m held0 places admission change p lo last q) (t : ℕ) (l : lo ≤ t) (h : t ≤ last) (held : Grid Q) (so : Stepped m held0 places change p lo q t held) where
  same : m.amount (held p t) ≡ m.amount (held0 p t)
  unfolding amounts
  same = ap (λ g. g p t) so.so_far ∙ spanned-later m held0 change p q lo t t p (omega arith)

  new_next : (d c : Q) × (next m change (held0 p t) q ≡ Some d) × (next m change (held p t) q ≡ Some c) × (m.amount c ≡ m.amount d)
  new_next = grind (arith, ready.fits t, next_same m (held p t) (held0 p t) q q same refl change)

  abbrev c : Q
  c = new_next.1

  -- the count after this quarter
  next_left : left_after m held0 change p q (Some (places - taken m held0)) lo (t + 1 - lo) ≡ step_left (is_zero m (held p t)) (is_zero m c) (places - taken m held)
  next_left = grind (arith, left_next (λ x. is_zero m (held0 p x)) (λ x. is_zero m (becomes m held0 change p q x)) (Some (places - taken m held0)) lo t l, new_next, zero_alike m (held p t) (held0 p t) same, zero_alike m c new_next.0)

  some_left : is_some (step_left (is_zero m (held p t)) (is_zero m c) (places - taken m held)) ≡ true
  some_left = rw (← next_left) (left_before (λ x. is_zero m (held0 p x)) (λ x. is_zero m (becomes m held0 change p q x)) (Some (places - taken m held0)) lo (t + 1) (last + 1) (omega arith) (omega arith) ready.room)

  put_is : changed_one m held places admission change p t q ≡ put (amounts m held) p t (m.amount c)
  put_is = changed_one-is m held places admission p t q c (range_from p t provider (omega arith)) (room_step (is_zero m (held p t)) (is_zero m c) places (taken m held) (places - taken m held) so.bound refl some_left) held0 change (ready.welcome t l h) same new_next.3

  module _ (after : Grid Q) (is : amounts m after ≡ changed_one m held places admission change p t q) where
    -- the amounts after this quarter
    next_amounts : amounts m after ≡ spanned m held0 change p q lo (t + 1)
    next_amounts = rw (is, put_is, so.so_far) (rw (← put-spanned m held0 change p q lo t l) (grind (arith, new_next)))

    counted : taken m after + filled m held p t ≡ taken m held + cond (is_zero m c) 0 1
    counted = rw (taken_alike m after (put held p t c) (is ∙ (put_is ∙ sym (amounts_put m held p t c)))) (taken_put m held p t provider (omega arith) c)

    step : (step_left (is_zero m (held p t)) (is_zero m c) (places - taken m held) ≡ Some (places - taken m after)) × (taken m after ≤ places)
    step = count_step (is_zero m (held p t)) (is_zero m c) places (taken m held) (taken m after) (places - taken m held) so.bound refl counted some_left

    pub next_quarter : Stepped m held0 places change p lo q (t + 1) after
    next_quarter = record { so_far = next_amounts; left_is = next_left ∙ step.0; bound = step.1 }
