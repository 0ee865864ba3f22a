use Rattle.std.proofs.Common.{◌≡◌, take, None}
use Rattle.std.specs.List.{position}
use Rattle.requests.specs.Requests.{matching}
use Rattle.requests.proofs.finding.find_request.Given as goal

abbrev pub invariant-loop-place : goal.invariant-loop-place
invariant-loop-place g l = position (matching l.joining l.passage) (take l.place (g.L.Records.contents l.list)) ≡ None
