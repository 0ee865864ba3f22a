use Rattle.std.proofs.lemmas.Result.{IfOk-weaker}
use Rattle.supplies.proofs.Empty.{fresh_made}
use Rattle.supplies.proofs.own_memory.OwnMemorySupplyOwnDesk.supply.Goals as goal

pub returns : goal.returns
returns g c =
    fresh_made g.B.Q.Quantity.measure c.desk.result _ c.desk.ensures.stage
    (IfOk-weaker c.desk.result _ _ (λ d new. new.empty) c.desk.ensures.obligations)
    (IfOk-weaker c.desk.result _ _ (λ d new. new.empty) c.desk.ensures.bids)
    c.desk.ensures.requests
