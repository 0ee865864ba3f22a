use Rattle.std.proofs.Common.{◌≡◌, ◌<◌, length, ◌∙◌, arith}
use Rattle.std.proofs.lemmas.List.{drop-set-lt}
use Rattle.bureau.proofs.Runs.{desks_more}
use Rattle.bureau.proofs.bureau.Bureau.run.Goals as goal

pub loop-i-preserved : goal.loop-i-preserved
loop-i-preserved g c =
    let call : c.loop-i.i < length c.args.calls.now = omega (arith, c.min-n.ensures) in
    let reply : c.loop-i.i < length c.loop-i.replies = omega (arith, c.min-n.ensures, c.loop-i.auto.replies) in
    record {
      ran = λ h laws. rw c.put_reply.ensures (desks_more _ _ _ _ h _ _ _ c.args.calls.now c.loop-i.replies c.loop-i.i _ _ call reply c.index-calls-i.is laws (c.loop-i.invariant.ran h laws) c.perform-reply.ensures.stepped);
      rest = λ k past. rw c.put_reply.ensures (drop-set-lt k c.loop-i.replies c.loop-i.i _ (omega arith) ∙ c.loop-i.invariant.rest k (omega arith));
    }

pub returns-clause-ran : goal.returns-clause-ran
returns-clause-ran g c =
    let end : c.loop-i.i ≡ c.min-n.result = omega arith in
    rw end at c.loop-i.invariant.ran
