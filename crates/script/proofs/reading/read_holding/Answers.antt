use Rattle.std.proofs.Common.{refl}
use Rattle.script.proofs.Taking.{taken_then}
use Rattle.script.proofs.reading.read_holding.Goals as goal

pub returns : goal.returns
returns g c =
    let p = c.in_ok-provider.ensures in
    let t = c.in_ok-quarter.ensures in
    (refl, (p.0, t.0, p.1, t.1, taken_then p.2 t.2))
