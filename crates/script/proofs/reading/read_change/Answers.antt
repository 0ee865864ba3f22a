use Rattle.script.proofs.Taking.{taken_then}
use Rattle.script.proofs.reading.read_change.Goals as goal

pub returns : goal.returns
returns g c =
    let p = c.in_ok-provider.ensures in
    let t = c.in_ok-quarter.ensures in
    (p.0, t.0, _, p.1, t.1, c.in_ok-quantity.ensures.value, taken_then p.2 (taken_then t.2 c.in_ok-next_word.ensures))
