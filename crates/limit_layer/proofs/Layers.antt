-- What a limit layer admits.
use Rattle.std.proofs.Common.{◌≡◌, arith}
use Rattle.quantity.specs.Measure.{Measure}

-- what is nothing adds nothing
pub plus_nothing : {Q R : Type 0} (m : Measure Q R) (q zero : Q) → zero ≡ m.nothing → m.plus (m.amount q) (m.amount zero) ≡ m.amount q
plus_nothing m q zero z = grind (arith, m.nothing_none, m.commutes (m.amount q) m.none, m.neutral (m.amount q))
