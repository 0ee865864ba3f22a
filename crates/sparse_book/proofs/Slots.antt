-- What slots tell of a provider and quarter.
use Rattle.std.proofs.Common.{◌≡◌, ℕ, false, List, [], ◌∷◌, refl, arith}
use Rattle.std.proofs.lemmas.Bool.Decides.{nat_tests}
use Rattle.quantity.specs.Measure.{Measure}
use Rattle.book.specs.Grid.{put}
use Rattle.std.specs.List.{position}
use Rattle.sparse_book.proofs.Firsts.{position-cons}
use Rattle.sparse_book.specs.Records.{Slot, keyed, mentions, records_held, told_by_place}

module _ {Q R : Type 0} (m : Measure Q R) (p t : ℕ) where
  -- a provider and quarter without a record hold zero
  pub held_unmentioned : (ss : List (Slot R)) → mentions p t ss ≡ false → records_held m ss p t ≡ m.nothing
  unfolding records_held mentions put
  held_unmentioned [] e = refl
  held_unmentioned (s ∷ ss) e = grind (arith, nat_tests, held_unmentioned ss)

  -- a holding is what its first record tells
  pub held_told : (ss : List (Slot R)) → records_held m ss p t ≡ told_by_place m ss (position (keyed p t) ss)
  unfolding records_held put
  held_told [] = refl
  held_told (s ∷ ss) = rw position-cons (grind (arith, nat_tests, held_told ss))
