use Rattle.std.proofs.Common.{◌<◌, length, arith}
use Rattle.bureau.proofs.Days.{called}
use Rattle.bureau.proofs.bureau.Bureau.call_day.Goals as goal

pub returns : goal.returns
returns g c =
    let desks = c.self.inside.desks in
    let here : c.args.day < length desks.items = omega (arith, desks.ok.0) in
    rw (← c.self.view_is) (called _ desks.items c.args.day here c.index_mut.ensures.value c.perform.ensures.performed)
