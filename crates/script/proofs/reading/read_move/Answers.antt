use Rattle.std.proofs.Common.{refl}
use Rattle.script.proofs.Taking.{taken_then}
use Rattle.script.proofs.reading.read_move.Goals as goal

pub returns : goal.returns
returns g c =
    let p = c.in_ok-passage.ensures in
    (refl, (_, c.in_ok-quantity.ensures.value, (p.0, p.1, p.2, p.3, p.4, p.5, p.6, p.7, taken_then p.8 c.in_ok-next_word.ensures)))
