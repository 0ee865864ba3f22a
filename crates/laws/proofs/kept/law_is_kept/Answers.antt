use Rattle.laws.proofs.Theorem.{kept}
use Rattle.laws.proofs.kept.law_is_kept.Goals as goal

pub returns : goal.returns
returns g c = kept g.Q.Quantity.measure g.Q.ReserveQuantity.tenths_in g.Q.ReserveQuantity.directions
