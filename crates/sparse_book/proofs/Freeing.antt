-- Slots after the record of a provider and quarter is freed.
use Rattle.std.proofs.Common.{◌≡◌, ℕ, zero, suc, true, false, List, [], ◌∷◌, length, set, Some, None, Option, refl, ap, length-set, arith}
use Rattle.std.proofs.lemmas.Bool.Decides.{nat_tests}
use mathlib.Core.Path.{fun_ext}
use Rattle.quantity.specs.Measure.{Measure}
use Rattle.book.specs.Grid.{Grid, put, amounts}
use Rattle.std.specs.List.{position}
use Rattle.sparse_book.proofs.Firsts.{position-cons}
use Rattle.sparse_book.specs.Records.{Slot, keyed, mentions, apart, records_held, released}
use Rattle.sparse_book.proofs.Slots.{held_unmentioned}

module _ {R : Type 0} where
  -- a slot written mentions no more than before, but what is written
  pub mentions_set : (x u : ℕ) (ss : List (Slot R)) (i : ℕ) (new : Slot R) → keyed x u new ≡ false → mentions x u ss ≡ false → mentions x u (set ss i new) ≡ false
  unfolding mentions
  mentions_set x u [] i new k e = e
  mentions_set x u (s ∷ ss) zero new k e = grind arith
  mentions_set x u (s ∷ ss) (suc i) new k e = grind (arith, mentions_set x u ss i new k)

  -- apart slots stay apart
  pub apart_released : (ss : List (Slot R)) (o : Option ℕ) → apart ss ≡ true → apart (released o ss) ≡ true
  unfolding apart
  apart_released ss None e = e
  apart_released [] (Some i) e = e
  apart_released (s ∷ ss) (Some zero) e = grind arith
  apart_released (s ∷ ss) (Some (suc i)) e = grind (arith, apart_released ss (Some i), mentions_set)

  -- the record of p in t found and freed, among apart slots: there is no other
  pub gone : (p t : ℕ) (ss : List (Slot R)) → apart ss ≡ true → mentions p t (released (position (keyed p t) ss) ss) ≡ false
  unfolding mentions apart
  gone p t [] e = refl
  gone p t (s ∷ ss) e = rw position-cons (grind (arith, nat_tests, gone p t ss))

  pub length_released : (o : Option ℕ) (ss : List (Slot R)) → length (released o ss) ≡ length ss
  length_released None ss = refl
  length_released (Some i) ss = length-set ss i None

module _ {Q R : Type 0} (m : Measure Q R) where
  abbrev pub held_amounts : List (Slot R) → Grid m.Amount
  held_amounts ss = amounts m (records_held m ss)

  -- freeing the record of p in t makes that holding zero, and leaves the others
  pub freed : (p t : ℕ) (ss : List (Slot R)) → apart ss ≡ true → held_amounts (released (position (keyed p t) ss) ss) ≡ put (held_amounts ss) p t m.none
  unfolding records_held amounts put apart
  freed p t [] e = fun_ext (λ x. fun_ext (λ u. grind (arith, nat_tests, m.nothing_none)))
  freed p t (s ∷ ss) e = rw position-cons (fun_ext (λ x. fun_ext (λ u. let k = λ (a : apart ss ≡ true). ap (λ g. g x u) (freed p t ss a) in grind (arith, nat_tests, held_unmentioned m p t ss, m.nothing_none))))
