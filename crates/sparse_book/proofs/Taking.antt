-- Slots after a free one takes the record of a provider and quarter.
use Rattle.std.proofs.Common.{◌≡◌, ℕ, zero, suc, ◌<◌, true, false, List, [], ◌∷◌, length, get_or, set, Some, None, Option, arith}
use Rattle.std.proofs.lemmas.Bool.Decides.{nat_tests}
use mathlib.Core.Path.{fun_ext}
use Rattle.quantity.specs.Measure.{Measure}
use Rattle.book.specs.Grid.{in_range, put, amounts}
use Rattle.sparse_book.specs.declared.record.Record.{Record}
use Rattle.sparse_book.specs.Records.{Slot, vacant, mentions, apart, records_held, released}
use Rattle.sparse_book.proofs.Slots.{held_unmentioned}
use Rattle.sparse_book.proofs.Freeing.{mentions_set, held_amounts}

-- slots that do not mention p in t stay apart where one is written with it
pub taken_apart : {R : Type 0} (p t : ℕ) (y : R) → in_range p t ≡ true → (ss : List (Slot R)) (i : ℕ) → apart ss ≡ true → mentions p t ss ≡ false → apart (set ss i (Some (record { provider = p; quarter = t; row = y }))) ≡ true
unfolding apart mentions
taken_apart p t y h [] i a e = a
taken_apart p t y h (s ∷ ss) zero a e = grind arith
taken_apart p t y h (s ∷ ss) (suc i) a e = grind (arith, nat_tests, taken_apart p t y h ss i, mentions_set)

module _ {Q R : Type 0} (m : Measure Q R) where
  -- a slot that is free, or is freed, is free
  pub still_vacant : (ss : List (Slot R)) (o : Option ℕ) (j : ℕ) → vacant m (get_or ss j None) ≡ true → vacant m (get_or (released o ss) j None) ≡ true
  still_vacant ss None j v = v
  still_vacant [] (Some i) j v = v
  still_vacant (s ∷ ss) (Some i) zero v = grind arith
  still_vacant (s ∷ ss) (Some zero) (suc j) v = v
  still_vacant (s ∷ ss) (Some (suc i)) (suc j) v = still_vacant ss (Some i) j v

  module _ (p t : ℕ) (y : R) where
    abbrev new : Record R
    new = record { provider = p; quarter = t; row = y }

    taken_at : (x u : ℕ) (ss : List (Slot R)) (i : ℕ) → i < length ss → apart ss ≡ true → vacant m (get_or ss i None) ≡ true → mentions p t ss ≡ false → held_amounts m (set ss i (Some new)) x u ≡ put (held_amounts m ss) p t (m.amount (m.told y)) x u
    unfolding records_held apart mentions amounts put
    taken_at x u [] i l a v e = absurd (omega arith)
    taken_at x u (s ∷ ss) zero l a v e = grind (arith, nat_tests, λ (z : R). m.alike_same (m.told z) m.nothing, held_unmentioned m)
    taken_at x u (s ∷ ss) (suc i) l a v e = grind (arith, nat_tests, taken_at x u ss i)

    pub taken_amounts : (ss : List (Slot R)) (i : ℕ) → i < length ss → apart ss ≡ true → vacant m (get_or ss i None) ≡ true → mentions p t ss ≡ false → held_amounts m (set ss i (Some new)) ≡ put (held_amounts m ss) p t (m.amount (m.told y))
    taken_amounts ss i l a v e = fun_ext (λ x. fun_ext (λ u. taken_at x u ss i l a v e))
