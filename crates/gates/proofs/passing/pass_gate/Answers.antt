use Rattle.std.proofs.Common.{◌∙◌, arith}
use Rattle.gates.proofs.Lists.{midway_end, gate_judges}
use Rattle.gates.proofs.passing.pass_gate.Goals as goal

pub returns-clause-judged : goal.returns-clause-judged
returns-clause-judged g c =
    let book = c.args.obligations.now in
    rw (c.loop-place.invariant.requests ∙ midway_end g.O.Q.Quantity.measure _ _ _ _ _ _ (omega arith)) (gate_judges g.O.Q.Quantity.measure (g.O.Book.places book) (g.O.Book.admission book) c.args.gate (g.O.Book.holdings book) (g.L.Records.contents c.args.requests.now))
