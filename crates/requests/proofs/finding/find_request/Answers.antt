use Rattle.std.proofs.Common.{sym, ◌∙◌, arith}
use Rattle.requests.specs.Requests.{matching}
use Rattle.requests.proofs.Places.{place_hit, place_miss, place_end}
use Rattle.requests.proofs.finding.find_request.Goals as goal

pub returns-then-is_match_at : goal.returns-then-is_match_at
returns-then-is_match_at g c =
    sym (place_hit (matching c.args.joining c.args.passage) (g.L.Records.contents c.args.list.now) c.loop-place.place (sym c.is_match_at.ensures ∙ c.if-is_match_at.true) c.loop-place.invariant)

pub loop-place-preserved : goal.loop-place-preserved
loop-place-preserved g c =
    place_miss (matching c.args.joining c.args.passage) (g.L.Records.contents c.args.list.now) c.loop-place.place (sym c.is_match_at.ensures ∙ c.if-is_match_at.false) c.loop-place.invariant

pub returns : goal.returns
returns g c =
    sym (place_end (matching c.args.joining c.args.passage) (g.L.Records.contents c.args.list.now) c.loop-place.place (omega arith) c.loop-place.invariant)
