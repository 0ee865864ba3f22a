use Rattle.std.proofs.Common.{◌≡◌, rules, Some, sym, ◌∙◌}
use Rattle.std.specs.Result.{result_err}
use Rattle.refusals.proofs.Firsts.{front_stops}
use Rattle.day.specs.Announcing.{outline, announce_refusal}
use Rattle.day.proofs.stages.InStage.announce.Goals as goal

pub returns-in_err-check_outline-clause-answer : goal.returns-in_err-check_outline-clause-answer
unfolding announce_refusal
returns-in_err-check_outline-clause-answer g c =
    let r = c.in_err-check_outline.field-0.0 in
    let e : result_err c.from_residual.result ≡ Some r = search rules in
    e ∙ sym (front_stops (outline g.Q.Quantity.measure c.args.self.now.day g.S.BeforeGate.JOINING c.args.said) _ r (sym c.in_err-check_outline.ensures))
