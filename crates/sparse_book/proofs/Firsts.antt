-- The first element that passes a test, by the first element of the list.
use Rattle.std.proofs.Common.{◌≡◌, suc, Bool, cond, List, ◌∷◌, Some, arith}
use Rattle.std.proofs.lemmas.Bool.Decides.{nat_tests}
use Rattle.std.specs.Option.{option_map}
use Rattle.std.specs.List.{position}

pub position-cons : {A : Type 0} (test : A → Bool) (x : A) (xs : List A) → position test (x ∷ xs) ≡ cond (test x) (Some 0) (option_map suc (position test xs))
position-cons test x xs = grind (arith, nat_tests)
