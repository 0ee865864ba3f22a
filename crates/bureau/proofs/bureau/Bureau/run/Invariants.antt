use Rattle.std.proofs.Common.{◌≡◌, ℕ, ◌≤◌, List, [], take, drop}
use Rattle.laws.specs.Laws.{Entry, Laws}
use Rattle.bureau.specs.Bureaus.{bureau_of}
use Rattle.bureau.specs.Runs.{paired, Ran}
use Rattle.bureau.proofs.bureau.Bureau.run.Given as goal

abbrev pub invariant-loop-i : goal.invariant-loop-i
invariant-loop-i g l =
    let m = g.D.Q.Quantity.measure in
    let tenths = g.D.Q.ReserveQuantity.tenths_in in
    let directions = g.D.Q.ReserveQuantity.directions in
    let start = bureau_of m g.D.OneDay.state l.initial.self in
    record {
      ran : (h : List (Entry g.row.D-Q.Denot)) → Laws m tenths directions h start.days → Ran m tenths directions h start (paired (take l.i l.calls) (take l.i l.replies) []) (bureau_of m g.D.OneDay.state l.self);
      rest : (k : ℕ) → l.i ≤ k → drop k l.replies ≡ drop k l.initial.replies;
    }
