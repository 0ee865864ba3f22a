use Rattle.std.proofs.Common.{true, false, inr}
use Rattle.bureau.proofs.Days.{opened}
use Rattle.bureau.proofs.bureau.Bureau.open_day.Goals as goal

pub returns-then-not-is_opened : goal.returns-then-not-is_opened
returns-then-not-is_opened g c = inr (opened _ c.args.self.now false c.reserve.new.self.items c.in_ok-desk.ensures c.perform-answer.ensures.performed (cc) (cc))

pub returns : goal.returns
returns g c = inr (opened _ c.args.self.now true c.push_reserved.new.self.items c.in_ok-desk.ensures c.perform-answer.ensures.performed (cc) (cc))
