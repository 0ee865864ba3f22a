-- The holdings that rows tell.
use Rattle.std.proofs.Common.{◌≡◌, ℕ, zero, suc, ◌+◌, ◌*◌, ◌<◌, Bool, true, false, cond, leb, List, ◌++◌, map, length, take, drop, get_or, set, Some, None, Option, arith, length-append, length-drop, length-set, length-take}
use mathlib.Core.Path.{fun_ext}
use Rattle.std.proofs.lemmas.Bool.Decides.{nat_tests}
use Rattle.std.proofs.lemmas.List.{get_or_default, get_or-map, get_or_append_left, length-map, length-take-le, get_or-set_same, get_or-set_other, get_or_read}
use Rattle.std.proofs.lemmas.List.Edits.{map_over_more}
use Rattle.quantity.specs.Measure.{Measure, is_zero}
use Rattle.book.specs.Grid.{Grid, in_range, put, total, amounts, filled, taken}
use Rattle.book.specs.Calls.{held_at, full, change_refusal, everything}
use Rattle.book.specs.declared.answers.BookRefusal.{BookRefusal}
use Rattle.book.specs.declared.answers.BookRefusal.TheVariants.{NoFreePlace}
use Rattle.book.proofs.Grids.{range_parts}
use Rattle.book.proofs.Counts.{total_none, total_more, taken_none, taken_short, nothing_zero}
use Rattle.std.proofs.lemmas.List.Sums.{sum_by-cons}
use Rattle.std.specs.List.{count_by, range_with_len}
use Rattle.full_book.specs.Rows.{enough, rows_held, rows_places, blanked}

-- a loop that writes y over each row: one more
pub blank_more : {R : Type 0} (rows now : List R) (i : ℕ) (y : R) → i < length rows → now ≡ map (λ _. y) (take i rows) ++ drop i rows → set now i y ≡ map (λ _. y) (take (i + 1) rows) ++ drop (i + 1) rows
blank_more rows now i y l e = map_over_more (λ _. y) rows now i (get_or now i y) l e (get_or_default now i y (get_or now i y) (rw e (simp (length-append, length-map, length-take, length-drop) (omega arith))))

module _ {Q R : Type 0} (m : Measure Q R) (rows : List R) where
  -- the row of a provider and quarter
  abbrev pub row_at : ℕ → ℕ → R
  row_at p t = get_or rows (p * 100 + t) (m.row m.nothing)

  -- rows enough for all, and one of them
  module _ (e : enough rows ≡ true) (p t : ℕ) (hp : p < 32) (ht : t < 100) where
    pub held_read : (x : R) → x ≡ get_or rows (p * 100 + t) x → rows_held m rows p t ≡ m.told x
    unfolding rows_held
    held_read x r = grind (arith, nat_tests, get_or_read rows (p * 100 + t) x)

    pub row_told_inside : (x : R) → x ≡ get_or rows (p * 100 + t) x → held_at m (rows_held m rows) p t ≡ m.told x
    row_told_inside x r = grind (arith, nat_tests, held_read x r)

  pub told_inside : enough rows ≡ true → (p t : ℕ) → in_range p t ≡ true → (x : R) → x ≡ get_or rows (p * 100 + t) x → held_at m (rows_held m rows) p t ≡ m.told x
  told_inside e p t h = let k = range_parts p t h in row_told_inside e p t k.0 k.1

  -- too few rows for all: each tells zero
  pub held_few : enough rows ≡ false → (p t : ℕ) → rows_held m rows p t ≡ m.nothing
  unfolding rows_held
  held_few e p t = grind arith

  pub told_few : enough rows ≡ false → (p t : ℕ) → held_at m (rows_held m rows) p t ≡ m.nothing
  told_few e p t = grind (arith, held_few e p t)

  -- too few rows for all: none is taken, and every holding is zero
  pub few_zero : enough rows ≡ false → (p t : ℕ) → is_zero m (rows_held m rows p t) ≡ true
  unfolding rows_held
  few_zero e p t = grind (arith, nothing_zero m)

  pub few_taken : enough rows ≡ false → taken m (rows_held m rows) ≡ 0
  few_taken e = taken_none m (rows_held m rows) (few_zero e)

  module _ (p t : ℕ) (q : Q) where
    pub few_stays : enough rows ≡ false → is_zero m q ≡ true → put (amounts m (rows_held m rows)) p t (m.amount q) ≡ amounts m (rows_held m rows)
    unfolding rows_held amounts put
    few_stays e z = fun_ext (λ x. fun_ext (λ u. grind (arith, m.alike_same q m.nothing)))

    -- a row written is one holding changed
    pub held_written : enough rows ≡ true → in_range p t ≡ true → amounts m (rows_held m (set rows (p * 100 + t) (m.row q))) ≡ put (amounts m (rows_held m rows)) p t (m.amount q)
    unfolding rows_held amounts put
    held_written e h = fun_ext (λ x. fun_ext (λ u. grind (arith, nat_tests, m.row_told q, length-set, get_or-set_same, get_or-set_other)))

    -- with a place for each holding one is never wanting
    pub never_full : enough rows ≡ true → in_range p t ≡ true → full m (rows_held m rows) (rows_places rows) p t q ≡ false
    never_full e h = grind (arith, nat_tests, taken_short m (rows_held m rows) p t)

  -- too few rows for all: a zero may be written, and nothing else
  module _ (e : enough rows ≡ false) (p t : ℕ) (q : Q) where
    pub few_zero_answer : is_zero m q ≡ true → (refusal : BookRefusal) (new : Option Q) → new ≡ Some q → None ≡ change_refusal m (rows_held m rows) (rows_places rows) refusal (everything p t) p t new
    few_zero_answer z refusal new s = grind arith

    pub few_answer : is_zero m q ≡ false → (refusal : BookRefusal) (new : Option Q) → new ≡ Some q → Some NoFreePlace ≡ change_refusal m (rows_held m rows) (rows_places rows) refusal (everything p t) p t new
    few_answer z refusal new s = grind (arith, nat_tests, few_zero e p t, few_taken e)

  -- rows of which the first 3,200 are zero's tell zero
  pub zeros_empty : (enough rows ≡ true → (k : ℕ) → k < 3200 → get_or rows k (m.row m.nothing) ≡ m.row m.nothing) → amounts m (rows_held m rows) ≡ (λ _ _. m.none)
  unfolding rows_held amounts
  zeros_empty z = fun_ext (λ p. fun_ext (λ t. grind (arith, nat_tests, z, m.row_told m.nothing, m.nothing_none)))

-- blanked rows tell zero
module _ {R : Type 0} (x : R) (n : ℕ) (rows : List R) where
  abbrev cleared : List R
  cleared = cond (leb n (length rows)) (map (λ _. x) (take n rows) ++ drop n rows) rows

  cleared_row : leb n (length cleared) ≡ true → (k : ℕ) → k < n → get_or cleared k x ≡ x
  cleared_row e k l = grind (arith, nat_tests, get_or_append_left, get_or-map (λ _. x) (take n rows) k x, length-map, length-take-le)

pub blank_empty : {Q R : Type 0} (m : Measure Q R) (rows : List R) → amounts m (rows_held m (blanked m rows)) ≡ (λ _ _. m.none)
unfolding blanked
blank_empty m rows = zeros_empty m (blanked m rows) (cleared_row (m.row m.nothing) 3200 rows)

-- the zero holdings of a provider counted, with those that are not zero
module _ (test : ℕ → Bool) (f : ℕ → ℕ) where
  counted : (a n : ℕ) → ((k : ℕ) → k < a + n → f k ≡ cond (test k) 0 1) → count_by test (range_with_len a n) + total f (a + n) ≡ n + total f a
  counted a zero h = grind arith
  counted a (suc n) h = rw sum_by-cons (grind (arith, counted (a + 1) n, total_more f a, h a))

pub zeros_counted : {Q R : Type 0} (m : Measure Q R) (held : Grid Q) (p : ℕ) → p < 32 → count_by (λ t. is_zero m (held_at m held p t)) (range_with_len 0 100) + total (filled m held p) 100 ≡ 100
zeros_counted m held p hp = grind (arith, nat_tests, total_none (filled m held p), counted (λ t. is_zero m (held_at m held p t)) (filled m held p) 0 100)
