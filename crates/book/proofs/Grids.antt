-- Tables over providers and quarters.
use Rattle.std.proofs.Common.{◌≡◌, ℕ, ◌<◌, true, ltb, arith}
use mathlib.Core.Path.{fun_ext}
use Rattle.std.proofs.lemmas.Bool.{and_parts, ltb-true}
use Rattle.std.proofs.lemmas.Bool.Decides.{nat_tests}
use Rattle.book.specs.Grid.{Grid, in_range, put}

pub range_from : (p t : ℕ) → p < 32 → t < 100 → in_range p t ≡ true
range_from p t h k = grind (arith, nat_tests)

pub range_parts : (p t : ℕ) → in_range p t ≡ true → (p < 32) × (t < 100)
range_parts p t e = let w = and_parts (ltb p 32) (ltb t 100) e in (ltb-true p 32 w.0, ltb-true t 100 w.1)

module _ {A : Type 0} (g : Grid A) (p t : ℕ) (y : A) where
  pub put_here : put g p t y p t ≡ y
  unfolding put
  put_here = grind (arith, nat_tests)

  -- putting what stands there changes nothing
  pub put_same : g p t ≡ y → put g p t y ≡ g
  unfolding put
  put_same h = fun_ext (λ x. fun_ext (λ u. grind (arith, nat_tests)))
