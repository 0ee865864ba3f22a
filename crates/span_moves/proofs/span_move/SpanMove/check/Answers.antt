use Rattle.std.proofs.Common.{sym, arith}
use Rattle.span_moves.specs.declared.change.Change.TheVariants.{Lowering, Raising}
use Rattle.span_moves.proofs.Firsts.{all_fit}
use Rattle.span_moves.proofs.Lefts.{left_le, left_none}
use Rattle.span_moves.proofs.Whole.{move_checks-alike, welcome_from}
use Rattle.span_moves.proofs.span_move.SpanMove.check.Goals as goal
use Rattle.span_moves.proofs.span_move.SpanMove.check.Goals.{After-count_places, After-count_places-2}

pub returns-in_err-check_fits-clause-alike : goal.returns-in_err-check_fits-clause-alike
returns-in_err-check_fits-clause-alike g c other r e f = grind (arith, left_none, move_checks-alike g.Q.Quantity.measure (g.B.Book.holdings c.args.book.now) c.args.self.now.quantity)

pub returns-in_err-check_fits-2-clause-alike : goal.returns-in_err-check_fits-2-clause-alike
returns-in_err-check_fits-2-clause-alike g c other r e f = grind (arith, left_none, move_checks-alike g.Q.Quantity.measure (g.B.Book.holdings c.args.book.now) c.args.self.now.quantity)

pub returns-in_err-check_admitted-clause-alike : goal.returns-in_err-check_admitted-clause-alike
returns-in_err-check_admitted-clause-alike g c other r e f = rw (move_checks-alike g.Q.Quantity.measure (g.B.Book.holdings c.args.book.now) c.args.self.now.quantity) (grind (arith, left_none, rw c.change-raising.ensures at c.in_err-check_admitted.ensures other r e f))

pub returns-in_err-lowered-clause-alike : goal.returns-in_err-lowered-clause-alike
returns-in_err-lowered-clause-alike g c other r e f = rw (move_checks-alike g.Q.Quantity.measure (g.B.Book.holdings c.args.book.now) c.args.self.now.quantity) (grind (arith, left_none, rw c.change-raising.ensures at c.in_ok-check_admitted.ensures other r e f))

pub returns-in_err-ok_or-clause-alike : goal.returns-in_err-ok_or-clause-alike
returns-in_err-ok_or-clause-alike g c other r e f = rw (move_checks-alike g.Q.Quantity.measure (g.B.Book.holdings c.args.book.now) c.args.self.now.quantity) (grind (arith, left_none, rw c.change-raising.ensures at c.in_ok-check_admitted.ensures other r e f))

pub returns-clause-alike : goal.returns-clause-alike
returns-clause-alike g c other r e f = rw (move_checks-alike g.Q.Quantity.measure (g.B.Book.holdings c.args.book.now) c.args.self.now.quantity) (grind (arith, left_none, rw c.change-raising.ensures at c.in_ok-check_admitted.ensures other r e f))

pub returns-clause-ready : goal.returns-clause-ready
returns-clause-ready g c =
    let m = g.Q.Quantity.measure in
    let held = g.B.Book.holdings c.args.book.now in
    let x = c.args.self.now in
    let gives = sym (rw c.change-lowering.ensures at c.in_ok-check_fits.ensures) in
    let takes = sym (rw c.change-raising.ensures at c.in_ok-check_fits-2.ensures) in
    let bars = (rw c.change-raising.ensures at c.in_ok-check_admitted.ensures) in
    record {
      gives = record {
        fits = all_fit m held Lowering x.giver.number x.span.first x.span.last x.quantity gives;
        welcome = λ t l h. tt;
        bound = omega arith;
        room = grind arith;
      };
      fits = all_fit m held Raising x.taker.number x.span.first x.span.last x.quantity takes;
      welcome = welcome_from m held (g.B.Book.places c.args.book.now) (g.B.Book.admission c.args.book.now) Raising x.taker.number x.span.first x.span.last x.quantity bars;
      room = grind arith;
    }

pub count_places-requires-2 : goal.count_places-requires-2
count_places-requires-2 g c = grind (arith, left_le)
