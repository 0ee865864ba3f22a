use Rattle.std.proofs.Common.{arith}
use Rattle.span_moves.proofs.Alike.{both_next}
use Rattle.span_moves.proofs.span_change.SpanChange.check_one.Goals as goal

pub returns-in_default : goal.returns-in_default
returns-in_default g c other r e f = grind (arith, both_next g.Q.Quantity.measure (g.B.Book.holdings c.args.book.now) other e c.args.self.quantity r f c.args.self.change c.args.at.provider c.args.at.quarter)

pub returns : goal.returns
returns g c other r e f = grind (arith, both_next g.Q.Quantity.measure (g.B.Book.holdings c.args.book.now) other e c.args.self.quantity r f c.args.self.change c.args.at.provider c.args.at.quarter)
