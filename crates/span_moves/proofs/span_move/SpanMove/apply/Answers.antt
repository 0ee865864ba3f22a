use Rattle.std.proofs.Common.{◌+◌, ◌-◌, Some, ◌∙◌}
use Rattle.book.specs.Grid.{taken}
use Rattle.span_moves.specs.Spans.{count}
use Rattle.span_moves.proofs.Moving.{still_takes, still_welcome, same_left, moved_is}
use Rattle.span_moves.proofs.span_move.SpanMove.apply.Goals as goal
use Rattle.span_moves.proofs.span_move.SpanMove.apply.Goals.{After-apply}

pub apply-requires-2 : goal.apply-requires-2
apply-requires-2 g c =
    let m = g.Q.Quantity.measure in
    let held = g.B.Book.holdings c.args.book.now in
    let held1 = g.B.Book.holdings c.apply.new.book in
    let x = c.args.self in
    let low = rw c.change.ensures at c.apply.ensures.after in
    let left = rw c.change.ensures at c.apply.ensures.left in
    rw (c.change-2.ensures, c.apply.ensures.rest.places_stay, c.apply.ensures.rest.admission_stays) (record {
      fits = λ t l h. still_takes m held held1 x.giver.number x.taker.number x.quantity x.span.first (x.span.last + 1) x.apart low t (c.requires.fits t l h);
      welcome = λ t l h. still_welcome m held held1 x.giver.number x.taker.number x.quantity x.span.first (x.span.last + 1) x.apart low (g.B.Book.places c.args.book.now) (g.B.Book.admission c.args.book.now) t (c.requires.welcome t l h);
      bound = c.apply.ensures.bound;
      room = rw (same_left m held held1 x.giver.number x.taker.number x.quantity x.span.first (x.span.last + 1) x.apart low (Some (g.B.Book.places c.args.book.now - taken m held1)) (count x.span.first x.span.last), ← left) c.requires.room;
    })

pub returns-clause-after : goal.returns-clause-after
returns-clause-after g c =
    let x = c.args.self in
    let low = rw c.change.ensures at c.apply.ensures.after in
    (rw c.change-2.ensures at c.apply-2.ensures.after) ∙ moved_is g.Q.Quantity.measure (g.B.Book.holdings c.args.book.now) (g.B.Book.holdings c.apply.new.book) x.giver.number x.taker.number x.quantity x.span.first (x.span.last + 1) x.apart low
