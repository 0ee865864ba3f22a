use Rattle.script.proofs.Taking.{taken_then}
use Rattle.script.proofs.reading.read_passage.Goals as goal

pub returns : goal.returns
returns c =
    let g = c.in_ok-giver.ensures in
    let t = c.in_ok-taker.ensures in
    let f = c.in_ok-first.ensures in
    let l = c.in_ok-last.ensures in
    (g.0, t.0, f.0, l.0, g.1, t.1, f.1, l.1, taken_then g.2 (taken_then t.2 (taken_then f.2 l.2)))
