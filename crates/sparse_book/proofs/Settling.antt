-- What the slots tell after a holding has become q, and when there is no place for it.
use Rattle.std.proofs.Common.{◌≡◌, ℕ, ◌<◌, true, false, cond, List, length, get_or, set, Some, None, Option, arith}
use Rattle.quantity.specs.Measure.{Measure, is_zero}
use Rattle.book.specs.Grid.{Grid, put}
use Rattle.book.specs.Calls.{full}
use Rattle.book.proofs.Counts.{nothing_zero}
use Rattle.sparse_book.specs.declared.record.Record.{Record}
use Rattle.sparse_book.specs.Records.{Slot, keyed, vacant, apart, records_held, told_by_place, released}
use Rattle.std.specs.List.{position}
use Rattle.std.specs.Option.{is_none}
use mathlib.Core.Path.{fun_ext}
use Rattle.std.proofs.lemmas.Bool.Decides.{nat_tests}
use Rattle.std.proofs.lemmas.List.{get_or-set_same}
use Rattle.std.proofs.lemmas.List.Quantifiers.{position-Some}
use Rattle.sparse_book.proofs.Slots.{held_told}
use Rattle.sparse_book.proofs.Counting.{some_vacant, free_and_taken}
use Rattle.sparse_book.proofs.Freeing.{apart_released, gone, length_released, held_amounts, freed}
use Rattle.sparse_book.proofs.Taking.{still_vacant, taken_amounts}

-- a table written twice for one provider and quarter: the later stays
put_again : {A : Type 0} (g : Grid A) (p t : ℕ) (y z : A) → put (put g p t y) p t z ≡ put g p t z
unfolding put
put_again g p t y z = fun_ext (λ x. fun_ext (λ u. grind (arith, nat_tests)))

module _ {Q R : Type 0} (m : Measure Q R) (ss : List (Slot R)) (p t : ℕ) (q : Q) where
  abbrev told : Option ℕ
  told = position (keyed p t) ss

  -- the slots without the record of p in t
  abbrev without : List (Slot R)
  without = released told ss

  abbrev new : Record R
  new = record { provider = p; quarter = t; row = m.row q }

  -- the place of a holding that is not zero
  abbrev place : Option ℕ
  place = cond (is_zero m (told_by_place m ss told)) (position (vacant m) ss) told

  spot : (i : ℕ) → place ≡ Some i → (i < length without) × (vacant m (get_or without i None) ≡ true)
  spot i e = grind (arith, position-Some (vacant m) ss i None, position-Some (keyed p t) ss i None, length_released told ss, still_vacant m ss told i, get_or-set_same ss i None None)

  pub zero_amounts : apart ss ≡ true → is_zero m q ≡ true → held_amounts m without ≡ put (held_amounts m ss) p t (m.amount q)
  zero_amounts a z = grind (arith, freed m p t ss, m.alike_same q m.nothing, m.nothing_none)

  pub some_amounts : (i : ℕ) → apart ss ≡ true → place ≡ Some i → held_amounts m (set without i (Some new)) ≡ put (held_amounts m ss) p t (m.amount q)
  some_amounts i a e = grind (arith, spot i e, apart_released ss told, gone p t ss, taken_amounts m p t (m.row q) without i, m.row_told q, freed m p t ss, put_again (held_amounts m ss) p t m.none (m.amount q))

  pub full_is : apart ss ≡ true → is_zero m q ≡ false → full m (records_held m ss) (length ss) p t q ≡ is_none place
  full_is a z = grind (arith, free_and_taken m ss, some_vacant m ss, held_told m p t ss, nothing_zero m)
