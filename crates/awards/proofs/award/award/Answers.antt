use Rattle.std.proofs.Common.{◌≡◌, Some, sym, refl, ap, ◌∙◌, rules}
use Rattle.std.specs.Result.{result_err}
use Rattle.refusals.specs.Numbers.{answer_number}
use Rattle.awards.specs.Sheets.{view}
use Rattle.awards.specs.Awards.{award_after, award_sheet}
use Rattle.awards.proofs.Awarding.{refused_first}
use Rattle.awards.proofs.award.award.Goals as goal

pub returns-in_err-provider : goal.returns-in_err-provider
unfolding award_after award_sheet
returns-in_err-provider g c =
    let held = g.O.Book.holdings c.args.obligations.now in
    let award = c.args.award.now in
    let told : result_err c.from_residual.result ≡ Some c.in_err-provider.field-0.0 = search rules in
    let alike = refused_first g.O.Q.Quantity.measure held (g.O.Book.places c.args.obligations.now) (g.O.Book.admission c.args.obligations.now) g.O.Q.ReserveQuantity.directions c.args.quarters (view c.args.sheet.now) award.provider award.block award.prices.now award.quantity c.in_err-provider.field-0.0 c.in_err-provider.ensures.refusal in
    let why = sym (alike held award.quantity refl refl) in
    record {
      answer = ap answer_number (told ∙ sym why);
      alike = λ other q e f. told ∙ alike other q e f;
      after = rw why;
      rest = record { places_stay = refl; admission_stays = refl; layer_stays = refl };
      sheet = rw why;
    }
