use Rattle.std.proofs.Common.{refl}
use Rattle.quantity.specs.Fcr.{volume_of, volume_by}
use Rattle.book.specs.Grid.{total, taken, amounts}
use Rattle.span_moves.specs.Spans.{first_of, left}
use Rattle.span_moves.specs.Moves.{move_refusal, moved_holdings}
use Rattle.requests.specs.Announcing.{announcement_refusal}
use Rattle.awards.specs.Awards.{award_earns}
use Rattle.gates.specs.Gates.{after_moves, gated}
use Rattle.day.specs.Announcing.{announce_refusal}
use Rattle.figures.proofs.figures.figures_hold.Goals as goal

pub returns : goal.returns
unfolding volume_of volume_by total taken amounts first_of left move_refusal moved_holdings announcement_refusal award_earns after_moves gated announce_refusal
returns c = record {
  count = refl;
  figures = record {
    earning = refl;
    block = (refl, refl);
    in_order = (refl, refl);
    exchanged = (refl, refl);
    announcing = (refl, refl);
    reconciling = (refl, refl);
  };
}
