use Rattle.std.proofs.Common.{sym, arith}
use Rattle.span_moves.proofs.Firsts.{all_fit}
use Rattle.span_moves.proofs.Whole.{change_checks-alike, welcome_from}
use Rattle.span_moves.proofs.span_change.SpanChange.check.Goals as goal
use Rattle.span_moves.proofs.span_change.SpanChange.check.Goals.{After-count_places}

pub returns-in_err-check_fits-clause-alike : goal.returns-in_err-check_fits-clause-alike
returns-in_err-check_fits-clause-alike g c other r e f = grind (arith, change_checks-alike g.Q.Quantity.measure (g.B.Book.holdings c.args.book.now) c.args.self.quantity)

pub returns-in_err-check_admitted-clause-alike : goal.returns-in_err-check_admitted-clause-alike
returns-in_err-check_admitted-clause-alike g c other r e f = grind (arith, change_checks-alike g.Q.Quantity.measure (g.B.Book.holdings c.args.book.now) c.args.self.quantity)

pub returns-in_err-ok_or-clause-alike : goal.returns-in_err-ok_or-clause-alike
returns-in_err-ok_or-clause-alike g c other r e f = grind (arith, change_checks-alike g.Q.Quantity.measure (g.B.Book.holdings c.args.book.now) c.args.self.quantity)

pub returns-clause-alike : goal.returns-clause-alike
returns-clause-alike g c other r e f = grind (arith, change_checks-alike g.Q.Quantity.measure (g.B.Book.holdings c.args.book.now) c.args.self.quantity)

pub returns-clause-ready : goal.returns-clause-ready
returns-clause-ready g c =
    let m = g.Q.Quantity.measure in
    let held = g.B.Book.holdings c.args.book.now in
    record {
      fits = all_fit m held c.args.self.change c.args.self.provider.number c.args.self.span.first c.args.self.span.last c.args.self.quantity (sym c.in_ok-check_fits.ensures);
      welcome = welcome_from m held (g.B.Book.places c.args.book.now) (g.B.Book.admission c.args.book.now) c.args.self.change c.args.self.provider.number c.args.self.span.first c.args.self.span.last c.args.self.quantity c.in_ok-check_admitted.ensures;
      bound = omega arith;
      room = grind arith;
    }
